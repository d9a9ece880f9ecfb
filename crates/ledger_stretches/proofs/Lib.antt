pub mod Running
pub mod Taking
