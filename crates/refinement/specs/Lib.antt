pub mod Inv
pub mod Run
pub mod Step
