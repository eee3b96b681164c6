pub mod Numbers
pub mod Names
mod SeatRows
pub mod Texts
pub mod Found
pub mod ByName
mod PlayerRows
pub mod Alike
pub mod Mapped
