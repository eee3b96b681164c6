use Rattle.chess_board.proofs.board.Board.in_check.Goals as goal

pub returns : goal.returns
returns c = rw (← c.self.view_is) c.is_in_check.ensures
