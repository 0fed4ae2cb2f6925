pub mod Cases
pub mod Carry
pub mod Fractions
pub mod Root
pub mod Days
pub mod Prices
pub mod Over
pub mod Runs
