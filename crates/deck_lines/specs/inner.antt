pub mod Found
pub mod Stops
