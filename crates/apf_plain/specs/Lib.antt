pub mod Histories
pub mod Stages
pub mod Worlds
