use Rattle.std.proofs.Common.{ℕ, List, ◌++◌, codes, ap, ◌∙◌}
use Rattle.std.specs.String.{string_bytes}
use Rattle.lobby_players.specs.Halts as spec
use Rattle.lobby_players.proofs.halts.Halts.told_behind.Goals as goal

pub returns : goal.returns
returns c =
    let first : List ℕ → List ℕ → List ℕ = λ text reason. text ++ spec.line_if (codes "clocks stopped ") reason in
    let both : List ℕ → List ℕ → List ℕ = λ text announced. text ++ spec.line_if (codes "announced ") announced in
    let all : List ℕ → List ℕ → List ℕ = λ text full. text ++ spec.line_if (codes "log ") full in
    let stopped : List ℕ = first c.args.text.now (string_bytes c.args.self.now.reason) in
    let told : List ℕ = both stopped (string_bytes c.args.self.now.announced) in
    c.in_ok-push_line_if-3.ensures
    ∙ (ap (λ (t : List ℕ). all t c.full_word.result.now)
    (c.in_ok-push_line_if-2.ensures
    ∙ (ap (λ (t : List ℕ). both t c.as_str-2.result.now)
    (c.in_ok-push_line_if.ensures
    ∙ (ap (λ (t : List ℕ). first t c.as_str.result.now) c.in_ok-told.ensures.ok
    ∙ ap (λ (r : List ℕ). first c.args.text.now r) c.as_str.ensures.value))
    ∙ ap (λ (a : List ℕ). both stopped a) c.as_str-2.ensures.value))
    ∙ ap (λ (w : List ℕ). all told w) c.full_word.ensures)
