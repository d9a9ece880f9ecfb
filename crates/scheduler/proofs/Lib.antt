pub mod Common
pub mod Shorthand
pub mod Seats
pub mod Seating
pub mod Begun
pub mod Past
mod Lines
pub mod Rounding
pub mod Giving
pub mod Calls
pub mod Audited
pub mod Alone
pub mod Loads
mod Shared
mod Apart
pub mod Carding
