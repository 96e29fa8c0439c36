pub mod Faults
pub mod Numerals
pub mod Lines
pub mod Grammar
pub mod Objects
pub mod Commands
pub mod Shown
pub mod Texts
