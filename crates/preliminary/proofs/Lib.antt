pub mod Stepping
pub mod Settled
