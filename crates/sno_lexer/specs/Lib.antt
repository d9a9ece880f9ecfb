pub mod Listed
pub mod Written
pub mod Following
pub mod Lexed
pub mod Laws
pub mod inner
