use Rattle.std.proofs.Common.{◌≡◌, ◌∙◌, ap, sym, subst}
use Rattle.chess_bits.specs.Man.{other}
use Rattle.chess_board.specs.Position.{Position, IsValid}
use Rattle.chess_board.specs.Next.{next}
use Rattle.chess_board.specs.Board.{position_of}
use Rattle.chess_board.specs.declared.board.Board.TheInside.{Inside}
use Rattle.chess_board.proofs.ValidNext.{IsValid-next}
use Rattle.chess_board.proofs.board.Board.board_after.Goals as goal
use Rattle.chess_board.proofs.board.Board.board_after.Goals.{After-fullmove_after}

abbrev made_of : After-fullmove_after → Inside
made_of c = record {
  men = c.args.men;
  side = c.other.result;
  rights = c.rights_after.result;
  target = c.target_after.result;
  halfmove = c.halfmove_after.result;
  fullmove = c.fullmove_after.result;
}

is_next : (c : After-fullmove_after) → position_of (made_of c) ≡ next c.args.self.now c.args.mv.now
is_next c = λ i. record {
  placement = c.requires.men i;
  side = (c.other.ensures ∙ ap (λ (p : Position). other p.side) c.self.view_is) i;
  rights = c.rights_after.ensures.rights i;
  target = c.target_after.ensures i;
  halfmove = c.halfmove_after.ensures i;
  fullmove = c.fullmove_after.ensures i;
}

is_valid_next : (c : After-fullmove_after) → IsValid (position_of (made_of c))
is_valid_next c =
    subst IsValid (sym (is_next c))
    (IsValid-next c.args.self.now c.args.mv.now (subst IsValid c.self.view_is c.self.invariant.valid)
    c.requires.legal c.requires.halfmove c.requires.fullmove)

pub invariant_of-result : goal.invariant_of-result
invariant_of-result c = record { valid = is_valid_next c; known = c.rights_after.ensures.known }

pub returns-clause-valid : goal.returns-clause-valid
returns-clause-valid c = is_valid_next c
