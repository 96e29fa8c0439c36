pub mod Values
pub mod Keys
pub mod ScriptLines
pub mod Judged
pub mod RequestItems
