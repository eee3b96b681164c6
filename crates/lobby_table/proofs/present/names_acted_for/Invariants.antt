use Rattle.std.proofs.Common.{ℕ, ◌≡◌, List, take}
use Rattle.std.specs.HashSet.{contains_text}
use Rattle.lobby_words.specs.Players.{is_present}
use Rattle.lobby_table.specs.Visitors.{who_in}
use Rattle.lobby_table.proofs.present.names_acted_for.Given as goal

abbrev pub invariant-loop-connection : goal.invariant-loop-connection
invariant-loop-connection l =
    (name : List ℕ) → contains_text l.names name
    ≡ is_present (who_in l.visitors) (take l.connection-index l.connections) name
