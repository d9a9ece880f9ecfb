pub mod Order
pub mod Names
