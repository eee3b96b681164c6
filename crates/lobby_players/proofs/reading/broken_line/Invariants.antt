use Rattle.std.proofs.Common.{◌≡◌, suc, take}
use Rattle.std.specs.Prelude.{◌==◌}
use Rattle.std.specs.List.{count_by}
use Rattle.lobby_players.proofs.reading.broken_line.Given as goal

abbrev pub invariant-loop-byte : goal.invariant-loop-byte
invariant-loop-byte l = l.number ≡ suc (count_by (λ b. b == 10) (take l.byte-index l.valid))
