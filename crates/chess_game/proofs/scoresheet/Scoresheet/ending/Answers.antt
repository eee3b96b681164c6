use Rattle.std.proofs.Common.{List, length, ap, sym, ◌∙◌}
use Rattle.std.specs.Prelude.{◌==◌}
use Rattle.chess_board.specs.declared.moves.Move.{Move}
use Rattle.chess_game.specs.Scoresheet.{last_of}
use Rattle.chess_game.proofs.ScoresheetKept.{ending_by_last-none, ending_by_last-answered}
use Rattle.chess_game.proofs.scoresheet.Scoresheet.ending.Goals as goal

pub returns-then-is_empty : goal.returns-then-is_empty
returns-then-is_empty c =
    sym (ending_by_last-none c.args.self.now
    (sym (ap (λ (ms : List Move). length ms == 0) c.moves.ensures) ∙ sym c.is_empty.ensures ∙ c.if-is_empty.true))

pub returns-else-is_empty : goal.returns-else-is_empty
returns-else-is_empty c =
    ending_by_last-answered c.args.self.now c.self.inside.board c.args.times c.from.result c.after_move.result
    (sym (ap (λ (ms : List Move). length ms == 0) c.moves.ensures) ∙ sym c.is_empty.ensures ∙ c.if-is_empty.false)
    (c.self.invariant.board ∙ ap last_of c.self.view_is) c.requires (c.from.ensures ∙ c.halfmove.ensures)
    c.after_move.ensures.some c.after_move.ensures.none
