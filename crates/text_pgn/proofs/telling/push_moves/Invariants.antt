use Rattle.std.proofs.Common.{◌≡◌, ◌++◌, take, map}
use Rattle.std.specs.List.{All}
use Rattle.std.specs.String.{string_bytes}
use Rattle.text_pgn.specs.Telling.{spaced, coordinate_of, IsBetweenSquares}
use Rattle.text_pgn.proofs.telling.push_moves.Given as goal

abbrev pub invariant-loop-mv : goal.invariant-loop-mv
invariant-loop-mv l = record {
  bytes : string_bytes l.text ≡ string_bytes l.fn.text ++ spaced (map coordinate_of (take l.mv-index l.moves));
  squares : All IsBetweenSquares (take l.mv-index l.moves);
}
