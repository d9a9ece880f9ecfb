pub mod Filtering
pub mod Serving
pub mod Turning
pub mod Playing
pub mod Owning
pub mod Marking
pub mod Parting
