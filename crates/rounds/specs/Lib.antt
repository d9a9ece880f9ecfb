pub mod Delivery
pub mod Compositions
pub mod Laws
pub mod InParts
pub mod Isolation
pub mod Example
pub mod Serving
