pub mod Calls
pub mod Conclusions
pub mod Faults
pub mod Numbers
pub mod SameOutcomes
pub mod Sweeps
