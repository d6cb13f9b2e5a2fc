pub mod Advancing
pub mod Further
pub mod RunLaws
pub mod Working
