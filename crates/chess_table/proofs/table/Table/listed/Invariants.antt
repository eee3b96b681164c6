use Rattle.std.proofs.Common.{◌≡◌, take}
use Rattle.std.specs.String.{string_bytes}
use Rattle.chess_answer.specs.Reads.{list_text}
use Rattle.chess_table.proofs.table.Table.listed.Given as goal

abbrev pub invariant-loop-place : goal.invariant-loop-place
invariant-loop-place l = string_bytes l.body ≡ list_text (take l.place l.self.games)
