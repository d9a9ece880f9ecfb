pub mod Answers
pub mod Naming
pub mod Filling
pub mod Parts
