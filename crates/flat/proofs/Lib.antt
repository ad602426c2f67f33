pub mod Boundary
pub mod Histories
