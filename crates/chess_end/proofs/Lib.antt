pub mod Dead
pub mod Deciding
pub mod EachManLemmas
mod Examples
pub mod Shades
