pub mod Changes
pub mod Overlaps
pub mod Sums
pub mod Wholes
