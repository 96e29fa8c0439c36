pub mod Naturals
pub mod Lengths
pub mod Medians
pub mod Owning
pub mod Answering
pub mod Exact
