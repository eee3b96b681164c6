pub mod Guests
pub mod Origins
pub mod Paces
pub mod Place
pub mod Counting
pub mod Rounds
pub mod Waiting
pub mod Waking
