pub mod Told
pub mod Refusals
pub mod Acts
pub mod Names
