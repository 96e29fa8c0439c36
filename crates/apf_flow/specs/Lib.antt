pub mod Flow
pub mod Sizes
pub mod Fault
pub mod Deal
pub mod Places
