pub mod Columns
pub mod Facts
pub mod Heads
pub mod Levels
pub mod Means
pub mod Pictures
pub mod Strips
pub mod Styles
