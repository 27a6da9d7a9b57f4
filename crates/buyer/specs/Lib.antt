pub mod Levels
pub mod Middles
pub mod Corners
pub mod Laws
pub mod Walked
