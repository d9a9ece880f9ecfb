pub mod Sights
pub mod Serving
pub mod Admission
pub mod Listing
pub mod Taking
pub mod Missing
pub mod Glimpses
