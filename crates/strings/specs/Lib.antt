pub mod Waiting
pub mod Sums
