pub mod Runs
pub mod Sizes
pub mod Answers
