pub mod Cuts
pub mod Keeping
pub mod Lists
pub mod Stages
pub mod Runs
pub mod Nights
mod Later
mod Placed
