mod Table
pub mod Beside
mod Packs
mod Turns
mod Heads
mod Records
mod Linked
mod Steps
mod Clears
