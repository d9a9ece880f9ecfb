pub mod Laws
pub mod Marks
pub mod Expressions
pub mod Spelling
pub mod Lacking
pub mod Abstraction
pub mod inner
