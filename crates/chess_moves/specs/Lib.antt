pub mod Targets
pub mod Moves
pub mod Listing
pub mod Masks
pub mod Counting
