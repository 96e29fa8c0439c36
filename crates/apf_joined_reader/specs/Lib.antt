pub mod Counts
pub mod Joins
pub mod Reading
pub mod Looking
