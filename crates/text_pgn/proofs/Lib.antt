mod Fits
mod Kept
pub mod Played
pub mod Spelled
pub mod Found
pub mod Replaying
pub mod Naming
pub mod Checked
pub mod Appended
