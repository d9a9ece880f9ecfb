pub mod Seating
pub mod Turning
pub mod Playing
pub mod Telling
pub mod Alone
