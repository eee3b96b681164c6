mod ChangeLemmas
pub mod WriteLemmas
