-- How many games there may be.
use Rattle.std.specs.Prelude.{ℕ, Bool, List}
use Rattle.lobby_words.specs.declared.listing.Seat.{Seat}
use Rattle.lobby_words.specs.declared.listing.Stage.TheVariants as stages
use Rattle.lobby_table.specs.Owed.{Owed}
use Rattle.lobby_table.specs.Waiting.{has_many, is_full_at}
use Rattle.lobby_desk.specs.declared.limits.Limits.{Limits}

abbrev pub is_crowded : Limits → List Seat → List Owed → List ℕ → Bool
is_crowded limits seats owed name = has_many limits.waiting stages.Waits seats owed name

abbrev pub is_busy : Limits → List Seat → List Owed → List ℕ → Bool
is_busy limits seats owed name = has_many limits.playing stages.Plays seats owed name

abbrev pub is_spent : Limits → List Seat → List Owed → List ℕ → Bool
is_spent limits seats owed name = has_many limits.over stages.Over seats owed name

abbrev pub is_nearly_full : Limits → List Seat → List Owed → Bool
is_nearly_full limits seats owed = is_full_at limits.places seats owed
