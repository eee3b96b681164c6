use Rattle.std.proofs.Common.{◌≡◌, ◌+◌, sym, ap, ◌∙◌, Bool, true, false, cond, ◌||◌, is_some}
use Rattle.chess_board.specs.Position.{Position, man_at}
use Rattle.chess_board.specs.Next.{halfmove_after}
use Rattle.chess_board.proofs.board.Board.halfmove_after.Goals as goal

either : (a b x y r : Bool) → a ≡ x → b ≡ y → (a || b) ≡ r → (x || y) ≡ r
either a b x y r e f h = sym (ap (λ (t : Bool). t || b) e ∙ ap (λ (t : Bool). x || t) f) ∙ h

pub returns-then-pawn_moves-man_taken : goal.returns-then-pawn_moves-man_taken
unfolding halfmove_after
returns-then-pawn_moves-man_taken c =
    let taken : c.is_some-man_taken.result ≡ is_some (man_at c.args.self.now.placement c.args.mv.now.to) =
    c.is_some-man_taken.ensures ∙ ap is_some c.man_at.ensures
    ∙ ap (λ (p : Position). is_some (man_at p.placement c.args.mv.now.to)) c.self.view_is in
    sym (ap (λ (t : Bool). cond t 0 (c.args.self.now.halfmove + 1))
    (either _ _ _ _ true c.holds_kind-pawn_moves.ensures taken c.if-pawn_moves-man_taken.true))

pub returns-else-pawn_moves-man_taken : goal.returns-else-pawn_moves-man_taken
unfolding halfmove_after
returns-else-pawn_moves-man_taken c =
    let taken : c.is_some-man_taken.result ≡ is_some (man_at c.args.self.now.placement c.args.mv.now.to) =
    c.is_some-man_taken.ensures ∙ ap is_some c.man_at.ensures
    ∙ ap (λ (p : Position). is_some (man_at p.placement c.args.mv.now.to)) c.self.view_is in
    ap (λ (p : Position). p.halfmove + 1) c.self.view_is
    ∙ sym (ap (λ (t : Bool). cond t 0 (c.args.self.now.halfmove + 1))
    (either _ _ _ _ false c.holds_kind-pawn_moves.ensures taken c.if-pawn_moves-man_taken.false))
