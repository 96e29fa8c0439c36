pub mod Order
pub mod Segments
pub mod Reach
pub mod More
pub mod Rounding
pub mod Stretches
pub mod Divided
