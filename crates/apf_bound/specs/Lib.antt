pub mod Pairs
pub mod Bounds
pub mod Stretched
pub mod Misjudged
pub mod Kept
