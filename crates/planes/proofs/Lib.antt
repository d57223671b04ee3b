mod Moves
mod Fills
mod Groups
mod Sixteenfold
pub mod Places
