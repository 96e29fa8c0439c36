pub mod Agree
pub mod Places
pub mod Shares
