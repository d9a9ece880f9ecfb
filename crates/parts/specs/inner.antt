pub mod Tests
pub mod Picks
