pub mod Deals
pub mod Held
pub mod Meeting
pub mod Written
pub mod Merged
mod Ordered
mod Covers
