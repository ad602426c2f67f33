pub mod Spelling
pub mod Numerals
pub mod Putting
