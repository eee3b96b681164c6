use Rattle.std.proofs.Common.{◌≡◌, drop, true}
use Rattle.lobby_players.specs.File.{is_spaced_from}
use Rattle.lobby_players.proofs.line.is_spaced.Given as goal

abbrev pub invariant-loop-byte : goal.invariant-loop-byte
invariant-loop-byte l = is_spaced_from l.is_behind (drop l.byte-index l.bytes) ≡ is_spaced_from true l.bytes
