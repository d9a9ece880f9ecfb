-- What only the code's proofs need.
pub mod Serving
pub mod Names
pub mod Executing
