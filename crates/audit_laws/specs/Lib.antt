pub mod Telling
pub mod Reading
pub mod Sound
pub mod Histories
pub mod Laws
