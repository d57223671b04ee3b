pub mod Keys
pub mod Masks
pub mod Pairs
pub mod Adding
