pub mod Dues
pub mod Firsts
pub mod Keys
pub mod Places
pub mod Puts
