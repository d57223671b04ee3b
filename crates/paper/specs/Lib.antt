-- The definitions, in the order in which they build on each other.
pub mod Strings
pub mod Fips197
pub mod Section7
pub mod Figure6
pub mod Figure5
pub mod Document01
pub mod DayFile
pub mod Pause
pub mod Ledger
pub mod DayEdits
