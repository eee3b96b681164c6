use Rattle.std.specs.Prelude.{◌≡◌, List, length, map, take}
use Rattle.chess_board.specs.declared.moves.Move.{Move}
use Rattle.rec_codec.specs.declared.moves.MoveList.TheInside.{Inside}
use Rattle.rec_codec.specs.Moves.{move_of, codes_of, IsMoveList}

-- what a list keeps of its moves
abbrev pub inside_of : List Move → Inside
inside_of moves = record { count = length moves; codes = codes_of moves }

-- the moves that it keeps
abbrev pub moves_of : Inside → List Move
moves_of inside = map move_of (take inside.count inside.codes)

-- what every list keeps true
pub record IsSound (inside : Inside) : Type 0 where
  pub moves : IsMoveList (moves_of inside)
  pub same : inside_of (moves_of inside) ≡ inside
