pub mod Grown
pub mod Joins
pub mod ScopePairs
