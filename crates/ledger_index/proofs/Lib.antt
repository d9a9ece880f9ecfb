mod Back
mod Sealing
mod Entries
