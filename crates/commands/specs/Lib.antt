pub mod Commands
pub mod Scanning
