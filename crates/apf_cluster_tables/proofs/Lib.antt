pub mod Columns
pub mod Keys
pub mod Lines
pub mod Ordered
pub mod Pairing
