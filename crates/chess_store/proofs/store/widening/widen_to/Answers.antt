use Rattle.std.specs.Prelude.{Result, OnOk}
use Rattle.std.proofs.Common.{sym, subst}
use Rattle.std.proofs.lemmas.Result.{err_from_is_err_and}
use Rattle.sector_journal.specs.declared.fault.JournalFault.{JournalFault}
use Rattle.chess_table.specs.Widened.{with_limits}
use Rattle.chess_store.proofs.WidenLemmas.{first_lasts, both_last}
use Rattle.chess_store.proofs.CallLemmas.{ok_was}
use Rattle.chess_store.proofs.store.widening.widen_to.Goals as goal

pub returns-in_err-switch_halves-in-One-clause-lasts : goal.returns-in_err-switch_halves-in-One-clause-lasts
returns-in_err-switch_halves-in-One-clause-lasts g c = λ table sound taken kept.
    let e = err_from_is_err_and c.from_residual.result c.from_residual.ensures.1 in
    first_lasts c.args.journal.now c.switch_halves.new.journal c.from_residual.result c.switch_halves.result table
    (with_limits c.args.limits table) (c.switch_halves.ensures.lasts table sound taken kept)
    (subst (λ (r : Result (Unit {0}) JournalFault). OnOk r ⊥) (sym e.1) tt)

pub returns-in_ok-switch_halves-in-One-clause-lasts : goal.returns-in_ok-switch_halves-in-One-clause-lasts
returns-in_ok-switch_halves-in-One-clause-lasts g c = λ table sound taken kept.
    let first = c.switch_halves.ensures.lasts table sound taken kept in
    let made = ok_was c.switch_halves.result _ _ c.in_ok-switch_halves-in-One.was first.kept in
    both_last c.args.journal.now c.switch_halves.new.journal c.widen_once-in-One.result c.switch_halves.result table
    (with_limits c.args.limits table) first c.widen_once-in-One.new.journal
    (c.widen_once-in-One.ensures.lasts table sound taken made)
