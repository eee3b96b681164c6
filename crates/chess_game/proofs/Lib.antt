pub mod LineLemmas
pub mod EndingLemmas
pub mod TimeLemmas
pub mod KeptLine
pub mod ScoresheetKept
pub mod SidesLemmas
pub mod KeptGame
pub mod Shown
pub mod Acts
mod Refused
pub mod Offers
pub mod StoredLemmas
pub mod ReplayLemmas
pub mod RestoredLemmas
