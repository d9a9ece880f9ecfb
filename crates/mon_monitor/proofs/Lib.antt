pub mod Common
pub mod Shorthand
pub mod Playing
pub mod Printing
pub mod Histories
mod Exchanging
mod Telling
mod Answering
mod Accounting
mod Recounting
mod Unbroken
mod Taking
mod OutOfTurn
mod Appending
mod Seeing
mod Headline
mod Finding
mod Names
mod Named
pub mod Auditing
pub mod Requests
mod Commands
pub mod Turning
mod Loading
mod Agreeing
mod Beginnings
pub mod Example
mod Examples
pub mod Schedules
pub mod Unseen
pub mod Parts
pub mod Sharing
