pub mod Name
pub mod San
pub mod Coordinate
pub mod Naming
pub mod Letters
pub mod Fen
