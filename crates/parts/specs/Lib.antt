pub mod Told
pub mod Splits
pub mod Joining
pub mod inner
