pub mod Requesting
pub mod Turning
pub mod Standing
pub mod Framing
pub mod Marking
pub mod Parting
