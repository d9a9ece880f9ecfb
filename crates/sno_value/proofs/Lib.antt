mod Examples
mod Numerals
mod Powers
mod Strings
mod Replacing
mod Lawful
pub mod Refusing
mod TableLawful
