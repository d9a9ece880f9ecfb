pub mod Characters
pub mod Beginnings
pub mod Names
pub mod Lines
pub mod Feeding
pub mod Counts
pub mod Stops
pub mod inner
