pub mod Rights
pub mod Permissions
pub mod Entries
pub mod inner
