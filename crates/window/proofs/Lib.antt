pub mod Rows
pub mod Members
pub mod Covering
