pub mod Acting
pub mod Settled
