pub mod InPasses
