pub mod Found
pub mod Tested
pub mod Settled
