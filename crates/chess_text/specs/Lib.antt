pub mod Movetext
pub mod Pgn
pub mod Game
