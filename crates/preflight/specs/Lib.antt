pub mod Examined
pub mod Whys
pub mod Tallies
pub mod Rounds
pub mod Submissions
pub mod Allowances
pub mod Laws
pub mod inner
