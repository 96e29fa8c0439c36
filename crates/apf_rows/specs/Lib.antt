pub mod Accounts
pub mod Rows
pub mod Tables
pub mod Texts
pub mod Comparisons
pub mod Areas
pub mod Columns
