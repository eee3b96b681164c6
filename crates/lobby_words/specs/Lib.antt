pub mod Words
pub mod Answers
pub mod Plans
pub mod Waiting
pub mod Naming
pub mod Players
pub mod Lines
pub mod Initials
