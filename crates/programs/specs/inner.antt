-- How what is read and what runs is shown, to be compared with what was worked out by hand: no promise of the product.
pub mod Trees
pub mod Runs
pub mod Statements
pub mod Answers
pub mod Seen
