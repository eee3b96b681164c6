-- No limit is below the present one, and the store's own fault is another.
use Rattle.std.proofs.Common.{◌≡◌, Ok, Err, refl, subst}
use Rattle.rec_codec.specs.declared.limits.Limits.{Limits}
use Rattle.server_words.specs.JournalFaults.{MayWiden}
use Rattle.server_words.specs.declared.ends.Fault.TheVariants as fault
use Rattle.server_words.proofs.journals.widen_store.Goals as goal

pub returns-in-Ok-clause-below : goal.returns-in-Ok-clause-below
returns-in-Ok-clause-below g c =
    let may = subst (λ (l : Limits). MayWiden l c.args.limits) c.limits.ensures.limits (c.if-not-may_widen.ensures.0 refl) in (
      λ refused. absurd (let bad : Ok tt ≡ Err fault.Limits = refused in cc),
      λ never. absurd (never may),
    )

pub returns-in-Err-clause-below : goal.returns-in-Err-clause-below
returns-in-Err-clause-below g c =
    let may = subst (λ (l : Limits). MayWiden l c.args.limits) c.limits.ensures.limits (c.if-not-may_widen.ensures.0 refl) in (
      λ refused. absurd (let bad : Err (fault.Store c.in-Err.fault) ≡ Err fault.Limits = refused in cc),
      λ never. absurd (never may),
    )
