use Rattle.std.proofs.Common.{ℕ, ◌++◌, List, codes, ap, ◌∙◌}
use Rattle.std.specs.String.{string_bytes}
use Rattle.night_rounds.specs.Decisions.{text_behind, players_text}
use Rattle.night_rounds.proofs.DecisionTexts.{two_put}
use Rattle.night_rounds.proofs.decisions.push_players.Goals as goal

pub returns : goal.returns
unfolding players_text
returns c =
    let old = c.args.out.now.items in
    let first = c.push_text.new.out.items in
    let white = codes ",\"white\":\"" in
    let black = codes "\",\"black\":\"" in
    two_put old first c.push_text-2.new.out.items (text_behind white (string_bytes c.args.players.now.white))
    (text_behind black (string_bytes c.args.players.now.black))
    (c.in_ok-push_text.ensures ∙ ap (λ (w : List ℕ). old ++ text_behind white w) c.as_str.ensures.value)
    (c.in_ok-push_text-2.ensures ∙ ap (λ (w : List ℕ). first ++ text_behind black w) c.as_str-2.ensures.value)
