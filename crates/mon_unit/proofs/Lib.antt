pub mod Shorthand
mod Ties
mod Acting
mod Exchanges
pub mod Fitting
pub mod Runs
pub mod Loans
pub mod Looks
pub mod Changed
