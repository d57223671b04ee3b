mod Rows
pub mod Waits
