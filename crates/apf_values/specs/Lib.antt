pub mod Flat
pub mod Usual
pub mod Held
pub mod Views
pub mod Texts
pub mod Lines
