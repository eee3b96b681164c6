use Rattle.std.proofs.Common.{◌∙◌, sym}
use Rattle.std.proofs.lemmas.Bool.{false≢true}
use Rattle.chess_san.proofs.Comparing.{legal_of, may_leave-told}
use Rattle.chess_san.proofs.reading.spells.Goals as goal
use Rattle.chess_san.proofs.reading.spells.Goals.{then-may_leave, else-may_leave}

pub returns-else-is_legal : goal.returns-else-is_legal
returns-else-is_legal c = (
  λ holds'. absurd (false≢true (sym c.if-is_legal.false ∙ holds')),
  λ told. elim c.if-may_leave.branch [
    | then-may_leave w ↦
        w.value-is ∙ w.is_legal.ensures.1 (legal_of c.args.board.now c.args.mv.now c.args.text.now told)
    | else-may_leave w ↦
        absurd (false≢true (sym w.if-may_leave.false ∙ c.may_leave.ensures
        ∙ may_leave-told c.args.board.now c.args.mv.now c.args.text.now c.args.kind c.requires told))
  ],
)
