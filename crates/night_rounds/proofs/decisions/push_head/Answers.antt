use Rattle.std.proofs.Common.{ℕ, ◌++◌, List, codes, decimal, ap, ◌∙◌}
use Rattle.night_rounds.specs.Decisions.{text_behind, verdict_text, head_text}
use Rattle.night_rounds.proofs.DecisionTexts.{four_put}
use Rattle.night_rounds.proofs.decisions.push_head.Goals as goal

pub returns : goal.returns
unfolding head_text
returns c =
    let first = c.push_number.new.out.items in
    let second = c.push_number-2.new.out.items in
    let board = codes ",\"board\":" in
    let verdict = codes ",\"result\":\"" in
    four_put c.args.out.now.items first second c.push_text.new.out.items c.extend_from_slice.new.self.items
    (codes "{\"at\":" ++ decimal c.args.at) (board ++ decimal c.args.board)
    (text_behind verdict (verdict_text c.args.verdict)) (codes "\"")
    c.in_ok-push_number.ensures
    (c.in_ok-push_number-2.ensures ∙ ap (λ (n : ℕ). first ++ (board ++ decimal n)) c.from.ensures)
    (c.in_ok-push_text.ensures ∙ ap (λ (w : List ℕ). second ++ text_behind verdict w) c.verdict_text.ensures)
    c.in_ok-extend_from_slice.ensures.items
