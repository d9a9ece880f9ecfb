pub mod Pruning
pub mod Ages
pub mod Starting
pub mod Laws
