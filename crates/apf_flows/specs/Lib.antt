pub mod Flows
pub mod Known
pub mod Json
pub mod Names
pub mod Requests
