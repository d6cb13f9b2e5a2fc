pub mod Computes
pub mod Printed
