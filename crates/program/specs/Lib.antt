pub mod Demand3
pub mod Reads
pub mod Rounds
