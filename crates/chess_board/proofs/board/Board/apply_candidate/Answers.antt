use Rattle.std.proofs.Common.{◌∙◌, sym, subst}
use Rattle.std.proofs.lemmas.Bool.{false≢true}
use Rattle.chess_board.specs.Position.{Position, Placement, IsInCheck}
use Rattle.chess_board.proofs.board.Board.apply_candidate.Goals as goal

pub returns-clause-legal : goal.returns-clause-legal
returns-clause-legal c = record {
  candidate = c.requires.candidate;
  safe = λ exposed.
      let side = c.args.self.now.side in
      let men = subst (λ (men : Placement). IsInCheck men side) (sym c.men_after-men.ensures) exposed in
      let found = subst (λ (p : Position). IsInCheck c.men_after-men.result p.side) (sym c.self.view_is) men in
      false≢true (sym c.if-is_in_check.false ∙ c.is_in_check.ensures.1 found);
}

pub returns-then-is_in_check-clause-none : goal.returns-then-is_in_check-clause-none
returns-then-is_in_check-clause-none c = λ legal.
    let side = c.args.self.now.side in
    let found : IsInCheck c.men_after-men.result c.self.inside.side = c.is_in_check.ensures.0 c.if-is_in_check.true in
    let men = subst (λ (p : Position). IsInCheck c.men_after-men.result p.side) c.self.view_is found in
    legal.safe (subst (λ (men : Placement). IsInCheck men side) c.men_after-men.ensures men)
