pub mod Writing
pub mod Ahead
pub mod Ending
