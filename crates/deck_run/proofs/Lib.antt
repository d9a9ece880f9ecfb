pub mod Holdings
mod Counted
pub mod Running
pub mod ShownRecords
pub mod Ordered
mod Headline
mod Examples
pub mod Beginning
pub mod Due
pub mod Ahead
mod Ended
pub mod Isolated
pub mod LookingAlike
pub mod Rearranged
pub mod Staying
pub mod AnyTurns
pub mod Apart
mod Shown
