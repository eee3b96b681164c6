pub mod Asked
pub mod Boards
pub mod Computing
