-- The laws of stores under a budget, how long their lists are, and the answer that they give.
pub mod Runs
pub mod Lengths
pub mod Carrying
pub mod Sizes
