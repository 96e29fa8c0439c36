pub mod Courses
pub mod Dues
pub mod Limits
pub mod Percentiles
pub mod Waits
pub mod WindowRuns
pub mod Windows
