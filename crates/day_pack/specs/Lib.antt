pub mod Bits
pub mod Kept
pub mod Cleared
