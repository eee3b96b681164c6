use Rattle.server_clock.proofs.SlotLemmas.{same_beat}
use Rattle.server_clock.proofs.slots.parse.Goals as goal

pub returns-clause-each : goal.returns-clause-each
returns-clause-each c = λ beat fits s.
    same_beat beat c.u64_at-number.result c.u64_at-moment.result c.u64_at-system.result
    (c.u64_at-number.ensures beat.number fits.number s.1.0)
    (c.u64_at-moment.ensures beat.moment fits.moment s.1.1.0)
    (c.u64_at-system.ensures beat.system fits.system s.1.1.1.0)
