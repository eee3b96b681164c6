pub mod AlongLemmas
pub mod Deciding
pub mod ManLemmas
pub mod MemberLemmas
pub mod TableLemmas
pub mod WordLemmas
pub mod SetLemmas
pub mod Reversal
