use Rattle.std.proofs.Common.{◌∙◌, sym}
use Rattle.std.proofs.lemmas.Bool.{false≢true}
use Rattle.server_clock.proofs.SlotLemmas.{is-signed}
use Rattle.server_clock.proofs.slots.slot_in.Goals as goal

pub returns-then-are_zeros-clause-each : goal.returns-then-are_zeros-clause-each
returns-then-are_zeros-clause-each c = λ beat is e.
    absurd (false≢true (sym c.if-is_signed.false ∙ c.is_signed.ensures.1 (is-signed beat c.args.bytes.now e)))

pub returns-else-are_zeros-clause-each : goal.returns-else-are_zeros-clause-each
returns-else-are_zeros-clause-each c = λ beat is e.
    absurd (false≢true (sym c.if-is_signed.false ∙ c.is_signed.ensures.1 (is-signed beat c.args.bytes.now e)))
