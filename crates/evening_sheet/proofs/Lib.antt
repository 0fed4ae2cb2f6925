pub mod Lines
pub mod Evenings
pub mod Settled
