use Rattle.std.proofs.Common.{◌≡◌, ◌∙◌, ap, refl, sym}
use Rattle.chess_board.specs.Position.{Position}
use Rattle.chess_board.specs.Next.{rights_after}
use Rattle.chess_board.specs.RightsOf.{no_rights}
use Rattle.chess_board.proofs.NoRights.{rights_after-none}
use Rattle.chess_board.proofs.board.Board.rights_after.Goals as goal

pub returns-then-is_none-clause-rights : goal.returns-then-is_none-clause-rights
returns-then-is_none-clause-rights c =
    let p = c.args.self.now in
    let left = c.if-is_none.ensures.0 refl in
    let none : p.rights ≡ no_rights = ap (λ (q : Position). q.rights) (sym c.self.view_is) ∙ left in
    left ∙ sym (rights_after-none p c.args.mv.now none)

pub returns-clause-rights : goal.returns-clause-rights
unfolding rights_after
returns-clause-rights c = rw (
  ← c.keeps_right.ensures,
  ← c.keeps_right-2.ensures,
  ← c.keeps_right-3.ensures,
  ←
      c.keeps_right-4.ensures,
) c.of.ensures.rights
