pub mod RunStates
pub mod Printouts
pub mod Feeds
pub mod Audits
pub mod Abstraction
pub mod Holding
pub mod inner
