pub mod Holding
pub mod Putting
