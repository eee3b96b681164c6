pub mod Lines
pub mod Heard
pub mod Holding
pub mod Pieces
pub mod Texts
pub mod Outlets
pub mod Turns
