-- Document 01, "Label bytes" and the paragraphs on labels of "What each call refuses".
pub mod Form
pub mod Comparing
pub mod Bytes
pub mod Rules
pub mod Reading
pub mod Writing
pub mod Codec
