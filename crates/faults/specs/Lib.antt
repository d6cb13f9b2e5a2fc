pub mod CheckList
pub mod Fault
