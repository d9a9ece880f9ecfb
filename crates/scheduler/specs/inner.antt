-- What only the code's proofs need.
pub mod Stepping
pub mod Rounding
pub mod Alone
pub mod Spelling
pub mod Sharing
pub mod Parts
