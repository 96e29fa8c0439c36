pub mod Members
pub mod Judged
pub mod Lines
pub mod Values
pub mod Named
