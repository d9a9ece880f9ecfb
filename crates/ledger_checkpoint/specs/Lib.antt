pub mod Checkpoints
pub mod Picking
pub mod Taking
pub mod Writing
pub mod Laws
