pub mod Planes
pub mod Circuit
