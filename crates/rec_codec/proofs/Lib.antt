pub mod MoveLemmas
pub mod MoveListLemmas
pub mod FieldLemmas
pub mod PositionLemmas
pub mod EntryLemmas
pub mod RecordLemmas
pub mod SnapshotLemmas
pub mod SectorLemmas
pub mod HeaderLemmas
pub mod OneRecord
mod Examples
