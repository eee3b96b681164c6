pub mod Square
pub mod Table
pub mod Word
pub mod Man
pub mod Attack
pub mod SquaresOf
pub mod Placement
