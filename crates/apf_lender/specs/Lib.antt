pub mod Bounds
pub mod Periods
