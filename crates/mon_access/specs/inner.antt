pub mod Kinds
pub mod Deciding
pub mod Layout
