pub mod Jobs
pub mod Abstraction
pub mod Laws
pub mod inner
