pub mod Stages
pub mod Masks
pub mod Found
pub mod SetLists
