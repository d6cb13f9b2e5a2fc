pub mod Chain
pub mod Computes
pub mod Consistency
pub mod Network
pub mod Solution
pub mod Sweep
