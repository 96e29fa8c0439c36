pub mod Mean
pub mod Table
pub mod Charging
