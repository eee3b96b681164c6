pub mod Lines
pub mod TagLemmas
mod GameLemmas
