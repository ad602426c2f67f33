-- The laws of buffers.
pub mod ByteLists
pub mod Splicing
