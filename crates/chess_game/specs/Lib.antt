pub mod Scoresheet
pub mod ScoresheetInside
pub mod Sides
pub mod ClockFor
pub mod GameInside
pub mod Turn
pub mod Stored
pub mod Restored
