pub mod Breaks
pub mod Places
