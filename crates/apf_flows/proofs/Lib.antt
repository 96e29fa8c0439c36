pub mod Firsts
pub mod Grouped
pub mod Written
