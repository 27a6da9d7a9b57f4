pub mod Openings
pub mod Lines
