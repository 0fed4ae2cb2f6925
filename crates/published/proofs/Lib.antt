pub mod Published
pub mod Sums
