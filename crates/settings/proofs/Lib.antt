mod Components
mod Copies
pub mod Quarters
