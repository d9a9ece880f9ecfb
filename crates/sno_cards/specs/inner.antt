pub mod Segments
pub mod Cuts
pub mod Parts
