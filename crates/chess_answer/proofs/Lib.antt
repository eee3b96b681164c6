mod Room
mod Widths
mod TimesShown
pub mod Coming
pub mod Playing
