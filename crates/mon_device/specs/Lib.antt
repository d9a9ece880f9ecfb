pub mod Devices
pub mod Memory
pub mod Putting
pub mod Telling
pub mod Words
