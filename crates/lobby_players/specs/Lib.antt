pub mod File
pub mod Halts
pub mod Faults
pub mod Seen
pub mod Adding
pub mod Relinking
pub mod Joining
pub mod Stopping
