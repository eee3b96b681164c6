pub mod Fields
pub mod Refusals
pub mod Acts
pub mod Reads
