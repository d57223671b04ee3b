mod Lent
mod Growing
pub mod Sizes
