pub mod Sums
pub mod Events
pub mod Agreeing
pub mod Choices
pub mod VirtualTime
pub mod Worlds
pub mod Small
