pub mod Index
pub mod Course
pub mod Opening
pub mod Laws
