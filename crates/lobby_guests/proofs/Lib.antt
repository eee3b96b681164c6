pub mod EachGuest
pub mod Attending
pub mod Telling
pub mod Due
pub mod Owing
mod Wanted
pub mod Catching
mod Waking
mod Writing
mod Pacing
