pub mod Reading
pub mod Telling
pub mod First
pub mod Spines
pub mod Told
pub mod Laws
pub mod Runs
pub mod Levels
