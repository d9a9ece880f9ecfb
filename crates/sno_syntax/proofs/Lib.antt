pub mod Tables
pub mod Shorthand
pub mod Ends
pub mod Behind
pub mod Spelled
pub mod Wholes
pub mod Exactly
pub mod Readable
