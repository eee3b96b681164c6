-- The checks of a command, one group after another.
use Rattle.std.specs.Prelude.{ℕ, List, [], ◌∷◌, Option, Some, None, if◌then◌else◌}
use Rattle.chess_bits.specs.declared.men.Colour.{Colour}
use Rattle.chess_board.specs.Position.{Position}
use Rattle.rec_codec.specs.declared.record.Opening.{Opening}
use Rattle.chess_entry.specs.declared.verdicts.Verdict.{Verdict}
use Rattle.chess_entry.specs.Verdict.{Check, opening_for}
use Rattle.chess_game.specs.declared.games.Times.{Times}

-- the verdict of the first check that applies, if one does
abbrev pub stopped_by : List Check → Option Verdict
stopped_by [] = None
stopped_by (c ∷ checks) = if c.applies then Some c.verdict else stopped_by checks

-- what a player opens with a colour and the times together, from each start
abbrev pub opening_from : Colour → Times → List ℕ → Position → Opening
opening_from colour times name = opening_for colour times.initial times.increment times.period name
