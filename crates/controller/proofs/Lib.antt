pub mod ControllerLaws
pub mod Marks
