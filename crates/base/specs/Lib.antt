pub mod Below
pub mod Bytes
pub mod Choice
pub mod Computes
pub mod Digits
pub mod Row
