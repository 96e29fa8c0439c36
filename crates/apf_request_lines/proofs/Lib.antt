pub mod Fails
pub mod Walk
pub mod Stepping
