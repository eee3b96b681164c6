pub mod Rising
pub mod PlaceLemmas
pub mod Numbered
pub mod Kept
pub mod ParsingLemmas
pub mod Readiness
pub mod WhatEnters
pub mod GameKept
pub mod TableKept
pub mod CheckLemmas
pub mod FollowLemmas
pub mod Entered
mod Answering
mod WhichReads
pub mod Comings
pub mod AllowedLemmas
mod StandLemmas
pub mod StoredLemmas
pub mod RunLemmas
pub mod Promotions
pub mod PartLemmas
pub mod ReadLemmas
pub mod GamesLemmas
pub mod ListLemmas
