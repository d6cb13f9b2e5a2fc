pub mod Outcome
pub mod Sweeping
