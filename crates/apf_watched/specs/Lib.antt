pub mod Notes
pub mod Followed
pub mod Watched
