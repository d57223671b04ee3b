pub mod Levels
mod Turns
