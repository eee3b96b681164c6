use Rattle.std.proofs.Common.{◌∙◌, ap}
use Rattle.chess_notation.specs.Fen.{fen_of}
use Rattle.chess_fen.proofs.Positions.{fen_of-IsFenOf}
use Rattle.chess_fen.proofs.shown.ShownBoard.fen.Goals as goal

pub returns-clause-fen : goal.returns-clause-fen
returns-clause-fen c =
    fen_of-IsFenOf _ c.args.self.now (c.as_str.ensures.value ∙ c.self.invariant.2 ∙ ap fen_of c.self.view_is)
