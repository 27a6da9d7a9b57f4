pub mod Ranges
pub mod Centres
pub mod Predicted
pub mod Setups
