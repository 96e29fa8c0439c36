pub mod Summing
pub mod Keeping
pub mod Meeting
pub mod Flows
pub mod Tabling
pub mod Ordered
pub mod Areas
pub mod Columns
