pub mod BatchLemmas
pub mod RunLemmas
pub mod CallLemmas
pub mod MeansLemmas
pub mod CommitLemmas
pub mod OpenLemmas
pub mod WidenLemmas
mod ShownLemmas
mod SubmitLemmas
mod RefusedLemmas
pub mod LawfulEntries
pub mod ServingLemmas
pub mod LivesLemmas
pub mod DeviceLemmas
pub mod KeptLemmas
pub mod InMemoryLemmas
pub mod DrillLemmas
