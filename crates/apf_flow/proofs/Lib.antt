pub mod Decks
pub mod FirstPlace
pub mod Hands
pub mod Dealing
