mod Shorthand
mod Numbers
mod Identifiers
mod Listing
mod Apart
pub mod Different
mod Cutting
mod Decimals
