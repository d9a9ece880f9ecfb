pub mod Acts
pub mod Claiming
pub mod Owning
pub mod Past
pub mod Serving
pub mod Stretching
pub mod Verifying
