pub mod Fields
pub mod Values
pub mod Games
pub mod Heads
pub mod Refusals
pub mod Entered
