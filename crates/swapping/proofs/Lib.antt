-- The laws of swap.
pub mod Passed
pub mod SwapAnswer
