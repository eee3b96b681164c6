pub mod Owed
pub mod Sending
pub mod Watching
pub mod Visitors
pub mod Waiting
pub mod Pairings
pub mod Refusals
pub mod Rooms
