pub mod Faults
pub mod Sizes
pub mod Vetting
pub mod Planes
pub mod Pictures
pub mod Messages
