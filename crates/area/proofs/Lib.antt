-- The laws of parts of the area.
pub mod Parts
