pub mod Looks
pub mod Hosts
pub mod Steps
pub mod Places
pub mod Laws
pub mod inner
