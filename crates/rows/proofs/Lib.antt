pub mod Accepted
pub mod Rows
pub mod Scopes
