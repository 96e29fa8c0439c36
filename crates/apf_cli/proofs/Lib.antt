pub mod Printed
pub mod Paces
