pub mod Naming
pub mod Owners
pub mod Texts
pub mod Laws
