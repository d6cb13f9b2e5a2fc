pub mod Computes
pub mod Format
pub mod Kind
pub mod Limits
pub mod Lists
pub mod Version
