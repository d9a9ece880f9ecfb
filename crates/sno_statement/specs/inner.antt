pub mod Parsing
pub mod Faults
pub mod Told
