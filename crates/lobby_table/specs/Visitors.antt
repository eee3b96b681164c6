-- Who is connected.
use Rattle.std.specs.Prelude.{ℕ, ◌≡◌, Bool, List, Option, None, Some, is_some, option_and_then}
use Rattle.std.specs.BTreeMap.{BTreeMap, get}
use Rattle.std.specs.Ordering.{nat_cmp}
use Rattle.lobby_words.specs.declared.planning.Identity.{Identity}
use Rattle.lobby_words.specs.declared.players.Player.{Player}
use Rattle.lobby_words.specs.Players.{renewed, present_names, who_text}
use Rattle.lobby_table.specs.declared.visitors.Visitor.{Visitor}
use Rattle.lobby_table.specs.Watching.{at_table}

-- the player for whom a connection acts
abbrev pub who_in : BTreeMap ℕ Visitor → ℕ → Option Identity
who_in visitors c = option_and_then (λ (v : Visitor). v.who) (get nat_cmp visitors c)

-- whether a connection acts for a player, by for whom each does
abbrev pub acting : (ℕ → Option Identity) → ℕ → Bool
acting who c = is_some (who c)

-- until when the time of a connection is taken
abbrev pub until_at : Option Visitor → ℕ
until_at None = 0
until_at (Some v) = v.until

abbrev pub until_in : BTreeMap ℕ Visitor → ℕ → ℕ
until_in visitors c = until_at (get nat_cmp visitors c)

-- whether a connection is open
abbrev pub open_in_map : BTreeMap ℕ Visitor → ℕ → Bool
open_in_map visitors c = is_some (get nat_cmp visitors c)

-- a connection when the players are others
abbrev pub visitor_renewed : List Player → List Player → Visitor → Visitor
visitor_renewed old later v = record { who = renewed old later v.who; until = v.until }

-- The answer to `who` tells whether entries are paused, and the players for whom a connection acts that is open, and no
-- other.
abbrev pub IsPresence : Bool → List Player → (ℕ → Bool) → (ℕ → Option Identity) → List ℕ → Type 0
IsPresence is_paused players is_open acts_for text =
    (all : List ℕ) × ((c : ℕ) → at_table all c ≡ is_open c)
    × (text ≡ who_text is_paused (present_names acts_for all players))
