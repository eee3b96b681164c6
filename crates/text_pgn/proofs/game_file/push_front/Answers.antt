use Rattle.std.proofs.Common.{ℕ, List, ◌++◌, codes, decimal, ap, ◌∙◌}
use Rattle.text_pgn.specs.Json.{string}
use Rattle.text_pgn.specs.Rows.{position_in}
use Rattle.text_pgn.specs.Spectators.{front_json, notices_json, players_json, tags_json, tags_in}
use Rattle.text_pgn.proofs.Appended.{eight_put}
use Rattle.text_pgn.proofs.game_file.push_front.Goals as goal

pub returns : goal.returns
unfolding front_json
returns c =
    let g = c.args.game.now in
    let timed = c.push_text.new.out.items in
    eight_put c.args.out.now.items c.push_number.new.out.items c.push_notices.new.out.items
    c.extend_from_slice.new.self.items c.push_players.new.out.items c.extend_from_slice-2.new.self.items
    c.push_tags.new.out.items timed c.push_text-2.new.out.items
    (codes "{\"at\":" ++ decimal g.stand.at) (notices_json g.notices) (codes ",") (players_json g)
    (codes ",\"tags\":") (tags_json (tags_in g.tags.now)) (codes ",\"times\":" ++ string g.times.now)
    (codes ",\"start\":" ++ string (position_in c.args.start.now))
    c.in_ok-push_number.ensures c.in_ok-push_notices.ensures c.in_ok-extend_from_slice.ensures.items
    c.in_ok-push_players.ensures c.in_ok-extend_from_slice-2.ensures.items c.in_ok-push_tags.ensures
    c.in_ok-push_text.ensures
    (c.in_ok-push_text-2.ensures
    ∙ ap (λ (t : List ℕ). timed ++ (codes ",\"start\":" ++ string t)) c.position_in.ensures)
