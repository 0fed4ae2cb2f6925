pub mod Linked
pub mod Settled
