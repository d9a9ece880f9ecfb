pub mod Statements
pub mod Spelling
pub mod Lacking
pub mod Faults
pub mod Abstraction
pub mod Laws
pub mod inner
