use Rattle.std.proofs.Common.{◌∙◌, sym, subst}
use Rattle.chess_board.specs.Occupancy.{AreChanges}
use Rattle.chess_board.specs.Position.{Placement}
use Rattle.chess_notation.specs.Fen.{AreLetters}
use Rattle.chess_fen.specs.Shown.{AreRankTexts}
use Rattle.chess_fen.proofs.shown.ShownBoard.set.Goals as goal

pub reletter-touched-requires-clause-letters : goal.reletter-touched-requires-clause-letters
reletter-touched-requires-clause-letters c =
    subst (AreLetters c.self.inside.letters) (sym c.men-3.ensures) c.self.invariant.0

pub reletter-touched-requires-clause-changed : goal.reletter-touched-requires-clause-changed
reletter-touched-requires-clause-changed c =
    let changes : AreChanges c.men-3.result.now c.men-4.result.now c.changes-changed.result =
    subst (λ (old : Placement). AreChanges old c.men-4.result.now c.changes-changed.result)
    (c.men.ensures ∙ sym c.men-3.ensures)
    (subst (λ (new : Placement). AreChanges c.men.result.now new c.changes-changed.result)
    (c.men-2.ensures ∙ sym c.men-4.ensures) c.changes-changed.ensures) in
    λ s away. (changes s).0 away

pub renew_all-requires-clause-letters : goal.renew_all-requires-clause-letters
renew_all-requires-clause-letters c =
    subst (AreLetters c.reletter-touched.new.letters) (c.men-4.ensures ∙ sym c.men-6.ensures)
    c.reletter-touched.ensures.letters

pub invariant_of-self : goal.invariant_of-self
invariant_of-self c = (
  subst (AreLetters c.reletter-touched.new.letters) c.men-4.ensures c.reletter-touched.ensures.letters,
  subst (AreRankTexts c.renew_all.new.texts) c.men-6.ensures c.renew_all.ensures,
  c.write_fen.ensures,
)

pub write_fen-requires : goal.write_fen-requires
write_fen-requires c = subst (AreRankTexts c.renew_all.new.texts) c.men-6.ensures c.renew_all.ensures
