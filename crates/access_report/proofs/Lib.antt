pub mod Faults
mod Listed
mod Sections
