use Rattle.std.proofs.Common.{◌≡◌, ◌++◌, drop}
use Rattle.night_games.specs.Html.{escaped}
use Rattle.night_games.proofs.html.push_text.Given as goal

abbrev pub invariant-loop-byte : goal.invariant-loop-byte
invariant-loop-byte l = l.out.items ++ escaped (drop l.byte-index l.text) ≡ l.fn.out.items ++ escaped l.text
