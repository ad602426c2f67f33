-- The laws of the labels and the area that fresh gives.
pub mod Cleared
