pub mod Blocks
pub mod Totals
pub mod Wholes
