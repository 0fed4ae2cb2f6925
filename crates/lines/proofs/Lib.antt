pub mod Texts
pub mod Settled
