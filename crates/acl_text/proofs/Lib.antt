mod Order
mod Parts
mod Places
mod Lacks
mod Steps
mod Printed
mod Putting
mod Spelled
mod Valid
mod Listed
mod Spelling
mod Clean
mod Comments
mod Lines
mod Plainly
pub mod Whole
mod Examples
pub mod Filled
