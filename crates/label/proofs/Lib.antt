-- The laws of labels, of every form.
pub mod Comparing
pub mod Numbers
pub mod Accepting
pub mod Fields
pub mod Places
pub mod WrittenRead
pub mod ReadWritten
pub mod Prefix
pub mod Codec
