pub mod Text
pub mod Fields
pub mod Cut
pub mod Line
