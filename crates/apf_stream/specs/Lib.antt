pub mod Deeds
pub mod Measures
pub mod Runs
pub mod States
pub mod Ties
pub mod Waits
