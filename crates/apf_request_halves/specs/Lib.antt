pub mod Held
pub mod Reading
