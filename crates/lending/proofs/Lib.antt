pub mod Buffers
pub mod Outcome
pub mod Overwritten
