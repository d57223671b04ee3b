pub mod Pauses
pub mod Reports
