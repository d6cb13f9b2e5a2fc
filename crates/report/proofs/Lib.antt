pub mod Reported
