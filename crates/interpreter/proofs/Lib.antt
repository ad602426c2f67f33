pub mod FirstByte
pub mod Formatting
pub mod Histories
pub mod Memory
pub mod ShownLabels
pub mod Steps
pub mod Tracking
