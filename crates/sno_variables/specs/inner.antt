pub mod Places
pub mod Lending
pub mod Exchanging
