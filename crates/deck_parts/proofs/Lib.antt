pub mod InParts
pub mod Apart
pub mod Dues
pub mod Owners
