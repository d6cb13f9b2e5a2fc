pub mod Bad
pub mod Judged
