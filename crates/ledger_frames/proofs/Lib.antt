pub mod Within
pub mod Between
pub mod Enough
pub mod Needed
