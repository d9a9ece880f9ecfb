pub mod Reading
pub mod Making
