pub mod Requests
pub mod Matches
pub mod Misses
pub mod First
pub mod Limits
