pub mod Shown
pub mod Reading
