pub mod Limits
pub mod Users
pub mod Tables
