pub mod Slots
pub mod Sums
pub mod Keeps
pub mod Follow
pub mod News
pub mod Obeying
pub mod Parts
pub mod Counting
pub mod Faults
mod Writing
mod Answering
mod Stating
mod Taking
mod Rounds
mod Ending
mod First
mod Whole
