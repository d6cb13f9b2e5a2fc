pub mod Kept
pub mod LoadLaws
