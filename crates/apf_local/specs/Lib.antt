pub mod Worlds
pub mod Owners
pub mod Levels
pub mod Openings
pub mod Tries
pub mod Seats
pub mod Batches
