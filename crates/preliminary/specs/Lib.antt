pub mod Moves
pub mod Settled
