pub mod Acts
pub mod Takes
pub mod Rows
pub mod Settled
