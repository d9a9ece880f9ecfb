pub mod Spoken
pub mod Picked
pub mod Audited
pub mod Whole
