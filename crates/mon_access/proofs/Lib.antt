mod Tables
pub mod Places
mod Halves
mod Together
pub mod Meanings
pub mod Cases
mod Orders
mod Smaller
mod Outcomes
mod Changes
mod Counts
mod Denials
mod Examples
mod Rightness
mod Naming
mod GrantingExamples
