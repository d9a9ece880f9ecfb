pub mod Coded
pub mod Performing
pub mod Lined
pub mod Falling
pub mod Going
pub mod Runs
pub mod Taking
pub mod Setting
