pub mod CountLaws
pub mod Kept
