pub mod Meeting
pub mod Stack
pub mod Cells
pub mod Running
pub mod Found
