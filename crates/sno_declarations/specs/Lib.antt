pub mod Formats
pub mod Prototypes
pub mod Arguments
pub mod Definitions
pub mod Laws
pub mod inner
