use Rattle.std.proofs.Common.{◌≡◌, ◌∙◌, ap, sym, Bool, ◌&&◌, false, inl, inr}
use Rattle.std.specs.List.{list_all}
use Rattle.chess_bits.specs.SquaresOf.{squares_left}
use Rattle.chess_board.specs.Computing.{is_inside}
use Rattle.chess_board.proofs.AttackLemmas.{pawns_inside, outside}
use Rattle.chess_board.proofs.draft.Draft.has_pawns_inside.Goals as goal
use Rattle.chess_board.proofs.draft.Draft.has_pawns_inside.Goals.{then-rank-eq1-via-then-rank-eq1, then-rank-eq1-via-else-rank-eq1+then-rank-eq8}

pub returns-then-rank-eq1 : goal.returns-then-rank-eq1
returns-then-rank-eq1 c =
    let edge : is_inside c.in-Some.square ≡ false = outside c.in-Some.square (elim c.then-rank-eq1.branch [
      | then-rank-eq1-via-then-rank-eq1 w ↦ inl (sym c.rank-rank.ensures.rank ∙ w.if-rank-eq1.true)
      | then-rank-eq1-via-else-rank-eq1+then-rank-eq8 w ↦ inr (sym c.rank-rank.ensures.rank ∙ w.if-rank-eq8.true)
    ]) in
    sym (sym (pawns_inside c.args.self.now.men) ∙ c.loop-square.invariant
    ∙ ap (list_all is_inside) c.in-Some.ensures.steps
    ∙ ap (λ (b : Bool). b && list_all is_inside (squares_left c.next.new.self)) edge)

pub returns : goal.returns
returns c = sym (sym (pawns_inside c.args.self.now.men) ∙ c.loop-square.invariant
    ∙ ap (list_all is_inside) c.in-None.ensures.steps.0)
