pub mod Strips
pub mod Sums
pub mod Transforms
pub mod Halving
pub mod Fours
pub mod Totals
pub mod Squares
pub mod Turning
