pub mod Cuts
pub mod Written
pub mod ReadRight
pub mod EveryLine
pub mod Braces
pub mod ObjectFaults
