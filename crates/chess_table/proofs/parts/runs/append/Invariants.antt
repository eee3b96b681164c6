use Rattle.std.proofs.Common.{◌≡◌, ◌+◌, ◌++◌, take, vec_len}
use Rattle.std.specs.Vec.{vec_capacity}
use Rattle.chess_table.proofs.parts.runs.append.Given as goal

abbrev pub invariant-loop-place : goal.invariant-loop-place
invariant-loop-place l = record {
  moves : l.moves.items ≡ l.initial.moves.items ++ take l.place l.run;
  len : vec_len l.moves ≡ vec_len l.initial.moves + l.place;
  capacity : vec_capacity l.moves ≡ vec_capacity l.initial.moves;
}
