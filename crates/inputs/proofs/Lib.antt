pub mod Judging
pub mod TurnLists
