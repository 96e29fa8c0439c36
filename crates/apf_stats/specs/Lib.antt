pub mod Numbers
pub mod Traces
pub mod Rule
