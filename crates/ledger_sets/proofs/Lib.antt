pub mod Made
mod Applied
pub mod Walking
pub mod Copying
mod Between
mod Written
