pub mod Shorthand
pub mod Placing
pub mod Finding
pub mod Pieces
pub mod Feeding
pub mod Continuing
pub mod Programs
pub mod Cuts
mod Examples
pub mod TruePlaces
pub mod Marks
