pub mod Sections
pub mod Complete
pub mod Settled
