use Rattle.std.proofs.Common.{ℕ, List, ◌++◌, map, codes, decimal, ap, ◌∙◌}
use Rattle.std.specs.Borrow.{Bor}
use Rattle.text_pgn.specs.Json.{string}
use Rattle.text_pgn.specs.Spectators.{players_json, particulars_json, tags_in}
use Rattle.text_pgn.proofs.Appended.{seven_put}
use Rattle.text_pgn.proofs.json_tags.push_players.Goals as goal

pub returns : goal.returns
unfolding players_json
returns c =
    let g = c.args.game.now in
    let now = λ (line : Bor (List ℕ)). line.now in
    let old = c.args.out.now.items in
    let named = c.extend_from_slice.new.self.items in
    seven_put old c.push_number.new.out.items c.push_text.new.out.items c.push_text-2.new.out.items
    c.push_text-3.new.out.items c.push_text-4.new.out.items named c.push_particulars.new.out.items
    (codes "\"game\":" ++ decimal g.game) (codes ",\"white\":" ++ string g.white.now)
    (codes ",\"black\":" ++ string g.black.now) (codes ",\"names\":[" ++ string g.white_name.now)
    (codes "," ++ string g.black_name.now) (codes "]") (particulars_json (tags_in g.tags.now))
    (c.in_ok-push_number.ensures ∙ ap (λ (n : ℕ). old ++ (codes "\"game\":" ++ decimal n)) c.from.ensures)
    c.in_ok-push_text.ensures c.in_ok-push_text-2.ensures c.in_ok-push_text-3.ensures c.in_ok-push_text-4.ensures
    c.in_ok-extend_from_slice.ensures.items
    (c.in_ok-push_particulars.ensures ∙ ap (λ (tags : List (List ℕ)). named ++ particulars_json tags)
    (ap (map now) c.as_slice.ensures.value ∙ c.in_ok-tags.ensures))
