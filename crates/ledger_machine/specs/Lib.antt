pub mod Steps
pub mod Running
pub mod Decks
pub mod Written
pub mod Laws
