pub mod Levels
pub mod Feeding
pub mod Lacks
pub mod Closing
pub mod Sound
pub mod Spines
pub mod Loop
mod Examples
pub mod Runs
pub mod First
pub mod Telling
