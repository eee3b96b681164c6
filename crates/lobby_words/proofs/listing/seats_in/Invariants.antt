use Rattle.std.proofs.Common.{◌≡◌, map, take}
use Rattle.std.specs.List.{flat_map}
use Rattle.lobby_words.specs.Waiting.{seats_row}
use Rattle.lobby_words.proofs.listing.seats_in.Given as goal

abbrev pub invariant-loop-row : goal.invariant-loop-row
invariant-loop-row l = l.seats.items ≡ flat_map seats_row (take l.row-index (map (λ row. row.now) l.row-items))
