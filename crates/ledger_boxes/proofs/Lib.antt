pub mod Exactly
pub mod Listed
pub mod Deciding
