pub mod Guests
pub mod Kept
