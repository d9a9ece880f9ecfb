pub mod Relating
pub mod Depth
pub mod Growing
pub mod Examples
