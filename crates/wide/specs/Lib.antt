pub mod Value
pub mod Settled
