use Rattle.std.proofs.Common.{◌≡◌, drop}
use Rattle.night_games.specs.Particulars.{are_digits}
use Rattle.night_games.proofs.particulars.are_digits.Given as goal

abbrev pub invariant-loop-byte : goal.invariant-loop-byte
invariant-loop-byte l = are_digits (drop l.byte-index l.text) ≡ are_digits l.text
