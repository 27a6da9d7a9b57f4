pub mod Arguments
pub mod Lines
