use Rattle.std.proofs.Common.{◌∙◌, Some, sym, ap}
use Rattle.std.proofs.lemmas.Bool.{false≢true}
use Rattle.std.proofs.lemmas.Bool.Decides.{Decides-eqb}
use Rattle.std.proofs.lemmas.Slice.Eq.{slice_eq-Decides}
use Rattle.server_clock.specs.Slots.{slot_bytes}
use Rattle.server_clock.proofs.SlotLemmas.{numbers-stand}
use Rattle.server_clock.proofs.slots.read_any.Goals as goal

pub returns-then-eq-clause-each : goal.returns-then-eq-clause-each
returns-then-eq-clause-each c = λ beat fits e.
    ap Some (c.parse-beat.ensures.each beat fits (numbers-stand beat c.args.bytes.now e))

pub returns-else-eq-clause-each : goal.returns-else-eq-clause-each
returns-else-eq-clause-each c = λ beat fits e.
    let same = c.parse-beat.ensures.each beat fits (numbers-stand beat c.args.bytes.now e) in
    let written = c.as_slice.ensures ∙ (c.write_slot-written.ensures ∙ (ap slot_bytes same ∙ (sym e
    ∙ sym c.as_slice-2.ensures))) in
    absurd (false≢true (sym c.if-eq.false ∙ (slice_eq-Decides Decides-eqb _ _ _ c.eq.ensures).1 written))
