pub mod Commands
pub mod Meaning
pub mod LevelName
pub mod Arguments
pub mod Patience
