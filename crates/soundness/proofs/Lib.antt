pub mod Found
pub mod Settled
