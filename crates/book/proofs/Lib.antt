pub mod Kept
pub mod Settled
