pub mod Printable
pub mod Repeating
mod Trimming
pub mod Words
pub mod Balance
pub mod Classes
pub mod Pairs
