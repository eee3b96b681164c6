use Rattle.std.proofs.Common.{◌≡◌, take}
use Rattle.lobby_words.specs.Players.{is_present}
use Rattle.lobby_table.specs.Visitors.{who_in}
use Rattle.lobby_table.proofs.PresentNames.{names_of}
use Rattle.lobby_table.proofs.present.present_names.Given as goal

abbrev pub invariant-loop-player : goal.invariant-loop-player
invariant-loop-player l =
    l.names.items ≡ names_of (λ p. is_present (who_in l.visitors) l.connections p.name) (take l.player-index l.players)
