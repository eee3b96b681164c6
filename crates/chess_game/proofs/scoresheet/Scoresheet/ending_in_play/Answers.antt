use Rattle.std.proofs.Common.{List, length, ap, sym, ◌∙◌, subst, refl}
use Rattle.std.specs.Prelude.{◌==◌}
use Rattle.chess_board.specs.declared.moves.Move.{Move}
use Rattle.chess_board.specs.Position.{Position}
use Rattle.chess_moves.specs.Moves.{HasLegal}
use Rattle.chess_game.specs.Scoresheet.{last_of}
use Rattle.chess_game.proofs.ScoresheetKept.{ending_by_last-none, ending_by_last-answered}
use Rattle.chess_game.proofs.scoresheet.Scoresheet.ending_in_play.Goals as goal

pub returns-then-is_empty : goal.returns-then-is_empty
returns-then-is_empty c =
    sym (ending_by_last-none c.args.self.now
    (sym (ap (λ (ms : List Move). length ms == 0) c.moves.ensures) ∙ sym c.is_empty.ensures ∙ c.if-is_empty.true))

pub after_move_in_play-requires : goal.after_move_in_play-requires
after_move_in_play-requires c =
    let P : Position → Type 0 = λ p. HasLegal p in
    subst P (sym (c.self.invariant.board ∙ ap last_of c.self.view_is)) c.requires.legal

pub returns-else-is_empty : goal.returns-else-is_empty
returns-else-is_empty c =
    ending_by_last-answered c.args.self.now c.self.inside.board c.args.times c.self.inside.board.halfmove
    c.after_move_in_play.result
    (sym (ap (λ (ms : List Move). length ms == 0) c.moves.ensures) ∙ sym c.is_empty.ensures ∙ c.if-is_empty.false)
    (c.self.invariant.board ∙ ap last_of c.self.view_is) c.requires.times refl
    c.after_move_in_play.ensures.some c.after_move_in_play.ensures.none
