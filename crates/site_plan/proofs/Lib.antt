pub mod Walking
mod Reaching
mod Owners
pub mod Tables
mod Catalogues
