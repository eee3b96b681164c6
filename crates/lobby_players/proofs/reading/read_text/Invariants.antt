use Rattle.std.proofs.Common.{map, take}
use Rattle.lobby_players.specs.File.{AreLinesOf, entries_of}
use Rattle.lobby_players.specs.Seen.{AreSeen}
use Rattle.lobby_players.proofs.reading.read_text.Given as goal

abbrev pub invariant-loop-i : goal.invariant-loop-i
invariant-loop-i l =
    AreLinesOf (take l.i (map (λ line. line.now) l.line-items)) (entries_of l.players.items)
    × AreSeen l.seen.names.keys l.seen.sums.keys l.players.items
