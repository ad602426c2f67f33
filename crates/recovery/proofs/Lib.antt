-- The laws of a restart.
pub mod RestartList
pub mod Passed
pub mod SoundFirst
