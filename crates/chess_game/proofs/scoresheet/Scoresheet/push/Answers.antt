use Rattle.std.proofs.Common.{◌∙◌, ap}
use Rattle.chess_board.specs.Position.{Position}
use Rattle.chess_board.specs.Next.{next}
use Rattle.chess_game.specs.Scoresheet.{last_of}
use Rattle.chess_game.proofs.scoresheet.Scoresheet.push.Goals as goal

pub push_with-requires-clause-made : goal.push_with-requires-clause-made
push_with-requires-clause-made c =
    c.apply-board.ensures.next
    ∙ ap (λ (p : Position). next p c.args.mv.now) (c.self.invariant.board ∙ ap last_of c.self.view_is)
