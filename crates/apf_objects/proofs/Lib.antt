pub mod Lists
pub mod Places
pub mod Counts
pub mod CatchAll
