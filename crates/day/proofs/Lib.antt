mod Index
mod Whole
pub mod Found
