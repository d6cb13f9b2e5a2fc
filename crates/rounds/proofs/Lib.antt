pub mod Rounding
pub mod RoundsLeft
