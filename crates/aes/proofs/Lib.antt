mod Shifts
mod Lanes
pub mod Blocks
