pub mod Marks
pub mod Listing
pub mod Knowing
pub mod ByHand
pub mod Beside
