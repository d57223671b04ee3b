pub mod Moved
pub mod Walk
pub mod Index
pub mod Held
