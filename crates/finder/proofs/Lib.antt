pub mod Masks
pub mod Walk
pub mod Shortlists
pub mod OnePass
