pub mod Needs
pub mod Laws
