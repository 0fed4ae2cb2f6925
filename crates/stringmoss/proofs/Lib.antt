pub mod Links
pub mod Settled
