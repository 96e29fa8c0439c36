pub mod Faults
pub mod Nodes
pub mod RingsView
pub mod TimeView
pub mod View
pub mod Consistent
