mod Examples
pub mod Heads
pub mod Completing
pub mod Sound
pub mod Grammar
pub mod Shapes
pub mod Leftmost
