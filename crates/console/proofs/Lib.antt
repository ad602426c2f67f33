pub mod Demand3
pub mod Handing
pub mod Runs
