use Rattle.std.proofs.Common.{sym, ◌∙◌}
use Rattle.chess_fen.proofs.Positions.{IsFenOf-fen_of, fen_of-IsFenOf}
use Rattle.chess_fen.proofs.fen.fen_write.Goals as goal

pub returns-clause-fen : goal.returns-clause-fen
returns-clause-fen c = fen_of-IsFenOf _ _ c.push_fields.ensures

pub returns-clause-one_text : goal.returns-clause-one_text
returns-clause-one_text c = λ text is. IsFenOf-fen_of text c.args.board.now is ∙ sym c.push_fields.ensures
