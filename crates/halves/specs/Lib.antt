pub mod HalfBytes
pub mod Blocks
