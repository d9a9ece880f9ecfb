pub mod Cards
pub mod CardLines
pub mod Codes
pub mod Refusing
pub mod Turns
pub mod Commands
pub mod Ties
pub mod inner
