pub mod Timely
pub mod Views
pub mod Reading
pub mod Turns
