pub mod RowByRow
pub mod Spelled
pub mod TimesBack
pub mod NotesBack
pub mod RunsKept
pub mod NewestKept
pub mod DecisionTexts
