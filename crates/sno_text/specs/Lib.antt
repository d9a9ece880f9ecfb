pub mod Texts
pub mod Faults
pub mod Patterns
pub mod Nodes
pub mod Sets
pub mod Balance
pub mod inner
