pub mod SourceLemmas
pub mod Counters
pub mod OneText
pub mod Shapes
pub mod Arrivals
pub mod OneMove
pub mod Comparing
pub mod Computed
mod Examples
