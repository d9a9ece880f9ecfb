pub mod Defining
pub mod Growing
pub mod Leaving
mod Steps
pub mod Calling
mod Restoring
mod Nesting
pub mod Left
