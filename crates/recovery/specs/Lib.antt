pub mod Copying
pub mod RegionLists
