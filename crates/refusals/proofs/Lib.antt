-- The laws of paragraphs of refusals, and of their numbers.
pub mod Order
pub mod Numbers
