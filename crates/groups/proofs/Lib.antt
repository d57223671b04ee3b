pub mod Each
pub mod Powers
pub mod Held
pub mod Numbered
pub mod OnPlanes
