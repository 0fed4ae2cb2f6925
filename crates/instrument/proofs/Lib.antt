pub mod Taken
pub mod Settled
