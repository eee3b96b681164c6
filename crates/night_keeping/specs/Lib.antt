pub mod Games
pub mod Names
pub mod Told
