pub mod Telling
pub mod PickedBytes
