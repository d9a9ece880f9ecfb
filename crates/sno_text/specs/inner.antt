pub mod Words
pub mod Codes
pub mod Reaching
pub mod Classes
