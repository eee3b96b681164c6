use Rattle.std.proofs.Common.{sym, ◌∙◌}
use Rattle.std.proofs.lemmas.Bool.{false≢true}
use Rattle.chess_game.proofs.restored.is_waiting.Goals as goal
use Rattle.chess_game.proofs.restored.is_waiting.Goals.{then-is_unmoved, else-is_unmoved}

pub returns-then-is_quiet : goal.returns-then-is_quiet
returns-then-is_quiet c = elim c.if-is_unmoved.branch [
  | then-is_unmoved w ↦
      let unmoved = c.is_unmoved.ensures.0 w.if-is_unmoved.true in
      let quiet = (w.is_quiet.ensures c.args.moves.now).0 (sym w.value-is ∙ c.if-is_quiet.true) in (
        λ told. record {
          unmoved = unmoved.0;
          goes_on = unmoved.1;
          unstarted = unmoved.2;
          quiet = quiet;
          white = (c.hold_initial.ensures.0 told).0;
          black = (c.hold_initial.ensures.0 told).1;
        },
        λ is. c.hold_initial.ensures.1 (is.white, is.black),
      )
  | else-is_unmoved w ↦ absurd (false≢true (sym w.if-is_unmoved.false ∙ sym w.value-is ∙ c.if-is_quiet.true))
]

pub returns-else-is_quiet : goal.returns-else-is_quiet
returns-else-is_quiet c = (
  λ told. absurd (false≢true (sym c.if-is_quiet.false ∙ told)),
  λ is. elim c.if-is_unmoved.branch [
    | then-is_unmoved w ↦ w.value-is ∙ (w.is_quiet.ensures c.args.moves.now).1 is.quiet
    | else-is_unmoved w ↦
        absurd (false≢true (sym w.if-is_unmoved.false ∙ c.is_unmoved.ensures.1 (is.unmoved, is.goes_on, is.unstarted)))
  ],
)
