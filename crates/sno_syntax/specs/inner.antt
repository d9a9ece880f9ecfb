-- What only the code's proofs need.
pub mod Ends
pub mod Lasts
pub mod Tokens
pub mod Parts
