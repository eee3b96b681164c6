use Rattle.std.proofs.Common.{◌≡◌, ℕ, ◌∙◌, true, false, Option, Some, None, sym, ap}
use Rattle.std.specs.Prelude.{is_some}
use Rattle.std.proofs.lemmas.Bool.{false≢true}
use Rattle.rec_codec.specs.Period.{period_moves, period_second}
use Rattle.rec_codec.proofs.used.period_at.Goals as goal
use Rattle.rec_codec.proofs.EntryLemmas.{none_there}

there : (period : Option (ℕ × ℕ)) (moves second : ℕ) → true ≡ is_some period → moves ≡ period_moves period →
    second ≡ period_second period → Some (moves, second) ≡ period
there None moves second h e f = absurd (false≢true (sym h))
there (Some period) moves second h e f = ap (λ m. Some (m, second)) e ∙ ap (λ s. Some (period.0, s)) f

pub returns-then-flag : goal.returns-then-flag
returns-then-flag c = λ period fits fits' e f h.
    there period c.u32_at-moves.result c.u32_at-second.result (sym c.if-flag.true ∙ h)
    (c.u32_at-moves.ensures (period_moves period) fits e) (c.u32_at-second.ensures (period_second period) fits' f)

pub returns-else-flag : goal.returns-else-flag
returns-else-flag c = λ period fits fits' e f h. none_there period (sym c.if-flag.false ∙ h)
