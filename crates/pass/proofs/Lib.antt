mod Stores
mod Steps
pub mod Halves
mod Replaced
mod Passes
mod One
mod Turns
mod Blocks
mod GroupSteps
