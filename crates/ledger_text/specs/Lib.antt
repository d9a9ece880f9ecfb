pub mod Text
pub mod Digests
pub mod Records
