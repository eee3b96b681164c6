pub mod Accepting
pub mod Listeners
pub mod Watches
