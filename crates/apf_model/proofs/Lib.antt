pub mod Sums
pub mod Places
pub mod Counts
pub mod Decided
pub mod Seats
