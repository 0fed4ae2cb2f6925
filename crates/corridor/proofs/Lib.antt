pub mod Ranged
pub mod Edges
pub mod Known
pub mod Multiples
pub mod Settled
