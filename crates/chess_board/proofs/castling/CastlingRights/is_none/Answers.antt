use Rattle.chess_board.specs.RightsOf.{rights_of}
use Rattle.chess_board.proofs.NoRights.{none_told}
use Rattle.chess_board.proofs.castling.CastlingRights.is_none.Goals as goal

pub returns : goal.returns
returns c =
    rw (c.allows.ensures, c.allows-2.ensures, c.allows-3.ensures, c.allows-4.ensures)
    (none_told (rights_of c.args.self))
