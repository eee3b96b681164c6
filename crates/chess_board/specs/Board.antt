use Rattle.chess_board.specs.declared.board.Board.TheInside.{Inside}
use Rattle.chess_board.specs.Position.{Position, IsValid}
use Rattle.chess_board.specs.RightsOf.{rights_of, flags_of, HasKnownFlags}

-- the position that a board shows
abbrev pub position_of : Inside → Position
position_of board = record {
  placement = board.men;
  side = board.side;
  rights = rights_of board.rights;
  target = board.target;
  halfmove = board.halfmove;
  fullmove = board.fullmove;
}

-- what a board keeps of a position
abbrev pub inside_of : Position → Inside
inside_of p = record {
  men = p.placement;
  side = p.side;
  rights = flags_of p.rights;
  target = p.target;
  halfmove = p.halfmove;
  fullmove = p.fullmove;
}

-- what every board keeps true
pub record IsSound (board : Inside) : Type 0 where
  pub valid : IsValid (position_of board)
  pub known : HasKnownFlags board.rights
