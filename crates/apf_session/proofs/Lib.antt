pub mod Opened
pub mod Staying
pub mod Finishing
pub mod Leaving
pub mod Attempts
pub mod Concluding
pub mod Beginning
pub mod Following
