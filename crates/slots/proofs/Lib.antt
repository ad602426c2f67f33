-- The laws of slots: what they are refused for, how they are read, how they are written.
pub mod Found
pub mod Written
