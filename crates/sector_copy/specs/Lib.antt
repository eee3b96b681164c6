pub mod Source
pub mod Faults
pub mod Copying
