-- Connections when the players are others.
use Rattle.std.proofs.Common.{List, ◌≡◌, Option, None, Some, refl}
use Rattle.std.specs.Prelude.{option_and_then, option_map, is_some}
use Rattle.lobby_words.specs.declared.players.Player.{Player}
use Rattle.lobby_table.specs.declared.visitors.Visitor.{Visitor}
use Rattle.lobby_words.specs.Players.{renewed}
use Rattle.lobby_table.specs.Visitors.{visitor_renewed, until_at}

pub renewed_who : (old later : List Player) (o : Option Visitor) →
    option_and_then (λ (v : Visitor). v.who) (option_map (visitor_renewed old later) o) ≡ renewed old later (option_and_then (λ (v : Visitor). v.who) o)
renewed_who old later None = refl
renewed_who old later (Some v) = refl

pub renewed_open : (old later : List Player) (o : Option Visitor) → is_some (option_map (visitor_renewed old later) o) ≡ is_some o
renewed_open old later None = refl
renewed_open old later (Some v) = refl

pub renewed_until : (old later : List Player) (o : Option Visitor) → until_at (option_map (visitor_renewed old later) o) ≡ until_at o
renewed_until old later None = refl
renewed_until old later (Some v) = refl
