pub mod Ranges
pub mod Refusals
pub mod Answers
pub mod Settled
