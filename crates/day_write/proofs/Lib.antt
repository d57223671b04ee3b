pub mod Settles
pub mod Writes
