pub mod Wholes
pub mod PartDecks
pub mod Numbers
pub mod Owning
