pub mod Known
pub mod Touching
