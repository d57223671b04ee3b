mod Steps
pub mod Sections
