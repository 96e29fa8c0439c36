pub mod Limits
pub mod Series
pub mod Spans
pub mod Strips
