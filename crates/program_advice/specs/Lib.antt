pub mod Brackets
pub mod Causes
pub mod Substitutes
