mod Runs
mod Loop
mod Places
mod Contexts
mod Words
mod Clean
mod Plain
mod Faults
mod Reading
pub mod Telling
pub mod Once
mod Examples
pub mod Apart
