pub mod Disks
pub mod Plans
pub mod Events
pub mod Memory
