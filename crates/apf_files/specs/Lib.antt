pub mod FirstFault
pub mod JsonFile
pub mod ConfigFile
pub mod ScriptFile
pub mod RequestsFile
pub mod ScriptLine
