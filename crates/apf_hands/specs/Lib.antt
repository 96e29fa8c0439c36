pub mod Firsts
pub mod Hands
pub mod Dealt
pub mod Holders
pub mod Alike
pub mod Flows
pub mod Dealing
