pub mod Taken
pub mod Given
pub mod Accepted
pub mod Matches
pub mod Chain
mod Rows
pub mod Patient
pub mod Ranges
pub mod Named
pub mod Parts
