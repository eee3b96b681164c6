pub mod GameLemmas
pub mod BlankLemmas
pub mod BoardLineLemmas
pub mod MoveTexts
pub mod BoardAnswerLemmas
pub mod BoardCuts
pub mod BoardRunLemmas
