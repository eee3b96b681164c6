use Rattle.std.proofs.Common.{◌≡◌, ◌++◌, drop, map}
use Rattle.std.specs.Prelude.{flat_map}
use Rattle.std.specs.String.{string_bytes}
use Rattle.night_games.specs.Html.{cell}
use Rattle.night_games.proofs.html.push_cells.Given as goal

abbrev pub invariant-loop-text : goal.invariant-loop-text
invariant-loop-text l =
    l.out.items ++ flat_map (cell l.fn.is_line) (map string_bytes (drop l.text-index l.texts))
    ≡ l.fn.out.items ++ flat_map (cell l.fn.is_line) (map string_bytes l.texts)
