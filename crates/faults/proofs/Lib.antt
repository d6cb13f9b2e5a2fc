pub mod Branches
pub mod Checks
pub mod FaultNumbers
pub mod Placed
