mod TapSums
pub mod Strips
mod Sums
mod Copies
mod Filling
mod Interpolated
mod Listing
mod Places
mod Shown
