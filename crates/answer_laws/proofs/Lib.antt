pub mod Times
pub mod Joined
pub mod Games
pub mod Refused
pub mod Sans
pub mod Entered
pub mod Heads
pub mod Names
