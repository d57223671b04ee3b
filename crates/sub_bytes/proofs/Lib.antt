pub mod Moves
pub mod States
