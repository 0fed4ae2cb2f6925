pub mod Writes
pub mod Puts
pub mod Settled
