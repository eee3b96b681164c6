pub mod AfterLemmas
pub mod InTime
pub mod Started
pub mod ReplayLemmas
pub mod Deciding
pub mod Bounds
pub mod Examples
