pub mod State
pub mod Tying
pub mod Serving
pub mod Lent
pub mod Memory
pub mod Runs
pub mod Laws
pub mod inner
