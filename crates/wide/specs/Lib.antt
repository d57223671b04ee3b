pub mod Uv
pub mod Ways
pub mod Ends
pub mod Planes
