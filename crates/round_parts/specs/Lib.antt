pub mod Names
pub mod Outputs
pub mod Laws
