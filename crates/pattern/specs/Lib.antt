pub mod Offsets
pub mod Patterns
pub mod Arms
pub mod Joins
pub mod Shorts
pub mod Supplied
