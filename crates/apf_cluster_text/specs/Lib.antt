pub mod LogViews
pub mod LogLines
pub mod Log
pub mod Said
pub mod ServerFaults
pub mod ServerLines
pub mod Unsaid
