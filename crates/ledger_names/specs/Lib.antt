pub mod Naming
pub mod Sorting
