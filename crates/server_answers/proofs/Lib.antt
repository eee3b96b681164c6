pub mod Names
pub mod Joined
pub mod Spelled
pub mod Standing
pub mod Counted
pub mod Refused
pub mod DoneActs
pub mod Apart
