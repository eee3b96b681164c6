use Rattle.std.proofs.Common.{ℕ, List, ap, ◌∙◌}
use Rattle.night_rounds.specs.Decisions.{verdict_in, verdict_behind, unquoted}
use Rattle.night_rounds.proofs.decisions.verdict_behind.Goals as goal

pub returns : goal.returns
unfolding verdict_behind
returns c =
    c.verdict_of.ensures
    ∙ ap (λ (w : List ℕ). verdict_in w) (c.between_quotes.ensures ∙ ap (λ (w : List ℕ). unquoted w) c.behind.ensures)
