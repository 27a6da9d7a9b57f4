pub mod Candidates
pub mod Rating
pub mod Prices
pub mod Strips
pub mod Marked
pub mod Centres
