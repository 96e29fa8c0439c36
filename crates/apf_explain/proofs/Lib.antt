pub mod Steps
pub mod Unknown
pub mod ConfigFaults
pub mod RequestFaults
pub mod ScriptFaults
pub mod TraceFaults
pub mod Parts
pub mod AuditFaults
