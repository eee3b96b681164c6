pub mod Listed
pub mod Words
pub mod WayLemmas
pub mod Nearest
pub mod Cutting
pub mod Uniting
