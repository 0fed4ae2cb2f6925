pub mod Days
pub mod Fractions
pub mod Prices
pub mod Cases
pub mod Over
