pub mod Cells
pub mod Counted
pub mod Entering
pub mod Exact
mod Examples
pub mod Finding
pub mod Firsts
pub mod Jumping
pub mod Missing
pub mod Passing
pub mod Pushing
pub mod Reaches
pub mod Run
pub mod Table
pub mod Trying
pub mod Within
