use Rattle.std.proofs.Common.{ℕ, sym, ap, ◌∙◌}
use Rattle.std.specs.Prelude.{is_some}
use Rattle.std.proofs.lemmas.Bool.{false≢true}
use Rattle.night_archive.specs.Clerk.{view, is_kept}
use Rattle.night_archive.proofs.night.clerk_of.Goals as goal

pub returns : goal.returns
returns g c =
    let begins = c.in_ok-clerk.ensures (view c.in_ok-clerk.clerk) in
    let unseen = λ (n : ℕ). c.synced.ensures.stage_is n ∙ begins.stage_is n in record {
      told = record {
        fresh = c.synced.ensures.fresh;
        has = λ n. c.synced.ensures.has n ∙ (begins.has n ∙ c.games.ensures n);
        seen = λ n k. absurd (false≢true (sym (ap is_some (unseen n)) ∙ k));
        matched = λ n k. absurd (false≢true (sym (ap is_kept (unseen n)) ∙ k));
      };
      settled = λ d n k l. absurd (false≢true (sym (ap is_some (unseen n)) ∙ k));
    }
