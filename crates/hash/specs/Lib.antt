pub mod Delta
pub mod Fitted
