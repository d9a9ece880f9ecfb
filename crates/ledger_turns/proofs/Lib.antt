pub mod Queues
pub mod Turns
pub mod Fairness
pub mod Taking
pub mod Sorting
