mod Made
pub mod Rows
pub mod Conversions
mod Doubles
