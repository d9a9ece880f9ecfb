pub mod Variables
pub mod First
pub mod Bindings
pub mod Laws
pub mod inner
