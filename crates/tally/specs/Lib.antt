pub mod Counts
pub mod Reasons
