pub mod Faults
pub mod Pairs
pub mod Steps
pub mod Numbers
pub mod Times
pub mod Texts
pub mod Lines
