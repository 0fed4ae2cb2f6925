pub mod Handed
pub mod Settled
pub mod Words
