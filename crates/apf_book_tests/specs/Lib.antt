pub mod Marks
pub mod Batches
