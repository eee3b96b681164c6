use Rattle.std.proofs.Common.{ℕ, ◌==◌, sym, ap, ◌∙◌}
use Rattle.lobby_words.proofs.coming.Coming.take.Goals as goal

pub returns-then-whole-clause-taken : goal.returns-then-whole-clause-taken
returns-then-whole-clause-taken c = (
  ap (λ (n : ℕ). n == 0) (sym c.in_ok-add.ensures.left) ∙ (sym c.is_whole-whole.ensures ∙ c.if-whole.true),
  c.take_all.ensures.text ∙ c.in_ok-add.ensures.text,
  c.take_all.ensures.taken,
)

pub returns-else-whole-clause-taken : goal.returns-else-whole-clause-taken
returns-else-whole-clause-taken c = (
  ap (λ (n : ℕ). n == 0) (sym c.in_ok-add.ensures.left) ∙ (sym c.is_whole-whole.ensures ∙ c.if-whole.false),
  c.in_ok-add.ensures.text,
)
