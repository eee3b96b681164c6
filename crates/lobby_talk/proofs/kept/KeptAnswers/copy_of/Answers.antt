-- What is kept is an answer.
use Rattle.std.proofs.Common.{List, ℕ, ap, subst, sym, ◌∙◌}
use Rattle.std.specs.String.{string_bytes}
use Rattle.lobby_talk.specs.Keeping.{HasKept}
use Rattle.lobby_talk.specs.Replays.{IsNumberIn}
use Rattle.lobby_talk.proofs.Keeping.{kept_of_line}
use Rattle.lobby_talk.proofs.kept.KeptAnswers.copy_of.Goals as goal

pub new-requires-clause-made : goal.new-requires-clause-made
new-requires-clause-made c =
    let kept = c.args.self.now.answers.items in
    let new = string_bytes c.in_ok-answer.answer in
    kept_of_line kept (string_bytes c.in_ok-pgn.pgn) new
    (subst (λ (l : List ℕ). HasKept kept l new) (sym c.in_ok-pgn.ensures.ok)
    (subst (λ (l : List ℕ). HasKept kept c.args.pgn.now l) (sym c.in_ok-answer.ensures.ok) c.in-Some.ensures.some))

pub new-requires-clause-named : goal.new-requires-clause-named
new-requires-clause-named c =
    ∣ subst (λ (l : List ℕ). IsNumberIn l c.args.game) (sym c.in_ok-pgn.ensures.ok) c.requires ∣₁

pub returns-clause-some : goal.returns-clause-some
returns-clause-some c =
    let kept = c.args.self.now.answers.items in
    let pgn = c.args.pgn.now in (
      ap string_bytes c.new.ensures.pgn ∙ c.in_ok-pgn.ensures.ok,
      subst (λ (l : List ℕ). HasKept kept pgn l) (sym (ap string_bytes c.new.ensures.answer ∙ c.in_ok-answer.ensures.ok)) c.in-Some.ensures.some,
    )
