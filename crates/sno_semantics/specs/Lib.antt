pub mod Outcomes
pub mod Operators
pub mod Keeping
pub mod Evaluation
pub mod Lines
pub mod Execution
pub mod Running
pub mod Limits
