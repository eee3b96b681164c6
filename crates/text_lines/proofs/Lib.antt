pub mod LineLemmas
pub mod Wholes
pub mod Writes
pub mod Runs
pub mod TurnLemmas
pub mod EndLemmas
