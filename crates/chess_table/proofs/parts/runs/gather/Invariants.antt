use Rattle.std.proofs.Common.{◌≡◌, ◌≤◌, ◌+◌, ◌-◌, ◌++◌, List, length, drop, vec_len}
use Rattle.std.specs.Vec.{vec_capacity}
use Rattle.chess_board.specs.declared.moves.Move.{Move}
use Rattle.rec_codec.specs.Limits.{ceiling}
use Rattle.chess_table.specs.Part.{HoldsMoves}
use Rattle.chess_table.proofs.parts.runs.gather.Given as goal

-- The records that are left hold the moves that are still to come, just where all records hold all moves.
abbrev pub invariant-loop-record : goal.invariant-loop-record
invariant-loop-record l = record {
  forth : (more : List Move) → HoldsMoves l.number (l.many - vec_len l.moves) (drop l.record-index l.records) more →
      HoldsMoves l.number l.many l.records (l.moves.items ++ more);
  back : (all : List Move) → HoldsMoves l.number l.many l.records all →
      (more : List Move) × HoldsMoves l.number (l.many - vec_len l.moves) (drop l.record-index l.records) more;
  few : vec_len l.moves ≤ l.many;
  left : ceiling (l.many - vec_len l.moves) 60 + l.record-index ≡ length l.records;
  room : l.many ≤ vec_capacity l.moves;
}
