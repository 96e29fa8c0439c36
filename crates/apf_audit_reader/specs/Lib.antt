pub mod Places
pub mod Log
pub mod Views
pub mod Giving
pub mod Reading
pub mod Turns
