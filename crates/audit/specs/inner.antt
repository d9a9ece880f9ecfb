pub mod KeptWords
pub mod Keeping
pub mod Parts
