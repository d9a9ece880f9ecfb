pub mod Looking
pub mod Places
pub mod Changing
pub mod Written
pub mod Binding
mod Steps
pub mod Assigned
pub mod Exchanged
pub mod Saved
