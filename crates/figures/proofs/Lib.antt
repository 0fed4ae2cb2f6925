pub mod Parameters
pub mod Settled
