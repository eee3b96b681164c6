-- For whom connections act.
use Rattle.std.specs.Prelude.{ℕ, Bool, List, Option, None, Some}
use Rattle.lobby_words.specs.declared.planning.Identity.{Identity}
use Rattle.lobby_table.specs.Visitors.{acting}
use Rattle.lobby_desk.specs.declared.desk.Desk.{Desk}
use Rattle.lobby_desk.specs.Who.{who_of}

-- whether a connection acts for a player
abbrev pub acts : Desk → ℕ → Bool
acts desk c = acting (who_of desk) c

-- the name of that player
abbrev pub name_if : Option Identity → Option (List ℕ)
name_if None = None
name_if (Some who) = Some who.name

abbrev pub player_at : Desk → ℕ → Option (List ℕ)
player_at desk c = name_if (who_of desk c)
