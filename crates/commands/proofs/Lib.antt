pub mod Capped
pub mod Decoding
pub mod OnePass
pub mod ScanOf
pub mod WordsFound
