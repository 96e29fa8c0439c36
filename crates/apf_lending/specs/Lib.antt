pub mod Claims
pub mod Shares
pub mod Breaks
pub mod Pieces
pub mod Divisions
pub mod Demands
