pub mod Ending
pub mod Faults
