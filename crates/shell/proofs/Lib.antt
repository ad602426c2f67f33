pub mod Blocks
pub mod Buffering
pub mod Transcript
