pub mod Keywords
pub mod Callees
pub mod States
pub mod CallFrames
pub mod Calls
pub mod Memory
pub mod Laws
pub mod inner
