-- What only the code's proofs need: the stage as the code works it out.
pub mod Classes
pub mod Lexing
