pub mod Labels
pub mod Places
pub mod Starts
pub mod Refusals
pub mod Programs
pub mod Reading
pub mod Laws
pub mod inner
