pub mod Shorthand
pub mod Names
mod Words
mod Changed
mod Shows
pub mod Refused
mod Pieces
