pub mod NextWord
pub mod Blocks
