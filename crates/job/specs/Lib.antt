pub mod Format
pub mod Heads
pub mod Vetting
pub mod Headers
pub mod Layouts
