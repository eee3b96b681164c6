use Rattle.std.proofs.Common.{◌≡◌, ◌+◌, ◌∙◌, ◌++◌, ◌∷◌, [], List, length, refl, ap, sym, arith}
use Rattle.chess_board.specs.declared.moves.Move.{Move}
use Rattle.chess_board.specs.Position.{Position}
use Rattle.chess_board.specs.Next.{next}
use Rattle.chess_board.specs.Line.{positions_of}
use Rattle.chess_game.specs.Scoresheet.{last_of}
use Rattle.chess_game.proofs.ScoresheetKept.{length-history, IsSoundScoresheet-push, times-answered}
use Rattle.chess_game.proofs.scoresheet.Scoresheet.place.Goals as goal

pub push-requires : goal.push-requires
push-requires c =
    let long : length c.self.inside.history.clocks ≡ length c.args.self.now.moves + 1 =
    length-history c.self.inside c.args.self.now c.self.view_is c.self.invariant in
    let short = c.requires.room.short in
    omega arith

pub invariant_of-self-2 : goal.invariant_of-self-2
invariant_of-self-2 c =
    IsSoundScoresheet-push c.self.inside _ c.args.mv.now c.self.invariant refl
    (c.push_reserved.ensures.items ∙ ap (λ (ms : List Move). ms ++ c.args.mv.now ∷ []) c.reserve.ensures.items)
    (c.requires.made
    ∙ ap (λ (p : Position). next p c.args.mv.now)
    (ap last_of (sym c.self.view_is) ∙ sym c.self.invariant.board))
    (c.in_ok-times.ensures.pushed (positions_of c.self.inside.start c.self.inside.moves.items) c.self.invariant.history)

pub returns-clause-times : goal.returns-clause-times
returns-clause-times c =
    times-answered _ _ c.in_ok-times.times refl (invariant_of-self-2 c) c.in_ok-times.ensures.count
