use Rattle.std.proofs.Common.{◌≡◌, ◌++◌, List, map}
use Rattle.std.specs.Slice.Iter.{chunks_rest, chunks_size}
use Rattle.chess_board.specs.declared.moves.Move.{Move}
use Rattle.chess_entry.specs.Snapshot.{moves_record}
use Rattle.chess_table.proofs.Promotions.{AllBecome}
use Rattle.chess_table.proofs.PartLemmas.{GoesOn}
use Rattle.chess_table.proofs.parts.writing.put_moves.Given as goal

-- the runs written so far are, with any runs of the moves that are left, runs of all moves
abbrev pub invariant-loop-run : goal.invariant-loop-run
invariant-loop-run l = record {
  done : List (List Move);
  written : l.records.items ≡ l.initial.records.items ++ map (moves_record l.number) done;
  goes_on : GoesOn l.fn.moves (chunks_rest l.run-iterator) done;
  size : chunks_size l.run-iterator ≡ 60;
  promotions : AllBecome (chunks_rest l.run-iterator);
}
