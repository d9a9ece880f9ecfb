pub mod Commits
pub mod Traces
pub mod Claims
pub mod Answers
pub mod Course
pub mod Places
pub mod Laws
pub mod CourseLaws
