pub mod Windows
pub mod Rounds
pub mod Rests
pub mod Stages
pub mod Lefts
pub mod Handing
pub mod Nearness
