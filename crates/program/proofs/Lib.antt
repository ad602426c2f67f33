pub mod Blocks
pub mod Demand3
pub mod Lines
pub mod Reading
pub mod Rounds
