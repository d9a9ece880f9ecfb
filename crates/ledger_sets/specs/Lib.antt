pub mod Changes
pub mod Writing
pub mod Applying
pub mod Seeing
pub mod Parts
pub mod Laws
