pub mod Runs
pub mod Settled
pub mod Before
