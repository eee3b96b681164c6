pub mod SlotLemmas
pub mod BeatLemmas
