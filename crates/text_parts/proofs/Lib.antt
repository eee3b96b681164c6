pub mod FirstPart
pub mod Cuts
pub mod Items
pub mod Digits
pub mod Spelled
pub mod Texts
