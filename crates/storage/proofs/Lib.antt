-- The laws of read, write and join.
pub mod ReadAnswer
pub mod WriteList
pub mod JoinList
pub mod Passed
