pub mod Called
pub mod Html
pub mod Particulars
pub mod Roster
