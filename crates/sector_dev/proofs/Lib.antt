pub mod Images
pub mod ImageList
pub mod Played
pub mod Moments
pub mod Settled
pub mod Crashes
pub mod Runs
pub mod Wholes
