pub mod Answers
pub mod Settled
