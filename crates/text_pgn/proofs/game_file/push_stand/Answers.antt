use Rattle.std.proofs.Common.{ℕ, List, ◌++◌, ◌-◌, codes, ap, ◌∙◌}
use Rattle.text_pgn.specs.Json.{string, truth}
use Rattle.text_pgn.specs.Spectators.{stand_json, turn_in, running_word, clocks_json, offer_by}
use Rattle.text_pgn.proofs.Appended.{nine_put}
use Rattle.text_pgn.proofs.game_file.push_stand.Goals as goal

pub returns : goal.returns
unfolding stand_json
returns c =
    let s = c.args.stand.now in
    let checked = c.push_truth.new.out.items in
    let turned = c.push_text.new.out.items in
    let clocks = c.extend_from_slice-2.new.self.items in
    let clocked = c.push_clocks.new.out.items in
    nine_put c.args.out.now.items c.extend_from_slice.new.self.items checked turned c.push_text-2.new.out.items clocks
    clocked
    c.push_text-3.new.out.items c.push_text-4.new.out.items c.push_text-5.new.out.items
    (codes "\"check\":") (truth c.args.is_check) (codes ",\"toMove\":" ++ string (turn_in c.args.fen.now))
    (codes ",\"running\":" ++ string (running_word s.running)) (codes ",\"clocks\":")
    (clocks_json (c.args.at - s.at) s.running s.clocks)
    (codes ",\"offer\":" ++ string (offer_by s.offers.white s.offers.black))
    (codes ",\"result\":" ++ string s.result.now) (codes ",\"article\":" ++ string s.article.now)
    c.in_ok-extend_from_slice.ensures.items c.in_ok-push_truth.ensures
    (c.in_ok-push_text.ensures ∙ ap (λ (t : List ℕ). checked ++ (codes ",\"toMove\":" ++ string t)) c.turn_word.ensures)
    (c.in_ok-push_text-2.ensures ∙ ap (λ (t : List ℕ). turned ++ (codes ",\"running\":" ++ string t))
    c.running_word.ensures)
    c.in_ok-extend_from_slice-2.ensures.items
    (c.in_ok-push_clocks.ensures
    ∙ ap (λ (n : ℕ). clocks ++ clocks_json n s.running s.clocks) c.saturating_sub-later.ensures)
    (c.in_ok-push_text-3.ensures ∙ ap (λ (t : List ℕ). clocked ++ (codes ",\"offer\":" ++ string t))
    c.offer_word.ensures)
    c.in_ok-push_text-4.ensures c.in_ok-push_text-5.ensures
