pub mod TraceFaults
pub mod TraceValue
pub mod TraceFile
