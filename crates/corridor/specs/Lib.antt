pub mod Edges
pub mod Settled
