pub mod Judged
pub mod Known
