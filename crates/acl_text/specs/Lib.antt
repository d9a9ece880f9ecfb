pub mod Texts
pub mod Refusals
pub mod Refused
pub mod Reading
pub mod Forms
pub mod Printing
pub mod Laws
pub mod inner
