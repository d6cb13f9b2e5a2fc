pub mod Chain
pub mod Kept
pub mod LoseLaws
pub mod TreatLaws
