use Rattle.std.proofs.Common.{ℕ, ◌++◌, List, codes, ap, ◌∙◌}
use Rattle.std.specs.String.{string_bytes}
use Rattle.night_rounds.specs.Decisions.{text_behind, ground_text}
use Rattle.night_rounds.proofs.DecisionTexts.{three_put}
use Rattle.night_rounds.proofs.decisions.push_ground.Goals as goal

pub returns : goal.returns
unfolding ground_text
returns c =
    let old = c.args.out.now.items in
    let first = c.push_text.new.out.items in
    let second = c.push_text-2.new.out.items in
    let article = codes "\",\"article\":\"" in
    let arbiter = codes "\",\"arbiter\":\"" in
    let reason = codes "\",\"reason\":\"" in
    three_put old first second c.push_text-3.new.out.items
    (text_behind article (string_bytes c.args.ground.now.article))
    (text_behind arbiter (string_bytes c.args.ground.now.arbiter))
    (text_behind reason (string_bytes c.args.ground.now.reason))
    (c.in_ok-push_text.ensures ∙ ap (λ (w : List ℕ). old ++ text_behind article w) c.as_str.ensures.value)
    (c.in_ok-push_text-2.ensures ∙ ap (λ (w : List ℕ). first ++ text_behind arbiter w) c.as_str-2.ensures.value)
    (c.in_ok-push_text-3.ensures ∙ ap (λ (w : List ℕ). second ++ text_behind reason w) c.as_str-3.ensures.value)
