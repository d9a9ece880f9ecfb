pub mod Printouts
pub mod Commands
pub mod Replies
pub mod Commanded
pub mod Saying
pub mod Laws
pub mod inner
