pub mod Answers
pub mod Closed
pub mod Mates
