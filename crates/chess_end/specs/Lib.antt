pub mod Computing
pub mod Ending
pub mod Material
