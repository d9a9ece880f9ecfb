pub mod Apart
pub mod Named
mod Catalogs
pub mod Ordered
pub mod Keeping
mod Granted
