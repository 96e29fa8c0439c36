pub mod Level
pub mod Fits
pub mod Codes
pub mod Limits
pub mod Unpacking
