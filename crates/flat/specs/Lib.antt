pub mod Flat
pub mod Histories
