use Rattle.std.proofs.Common.{ℕ, List, ◌≡◌, ◌++◌, map, length, codes, sym, ap, ◌∙◌}
use Rattle.std.proofs.lemmas.List.{length-map}
use Rattle.std.specs.Borrow.{Bor}
use Rattle.std.specs.String.{string_bytes}
use Rattle.text_pgn.specs.Rows.{rows_in, move_rows, last_row, position_in}
use Rattle.text_pgn.specs.Spectators.{players_json, last_json, stand_json}
use Rattle.text_pgn.proofs.Appended.{six_put}
use Rattle.text_pgn.proofs.game_file.push_entry.Goals as goal

pub returns : goal.returns
returns c =
    let now = λ (row : Bor (List ℕ)). row.now in
    let g = c.args.game.now in
    let check = c.args.played.now.is_check in
    let told = rows_in (string_bytes c.args.played.now.answer) in
    let kept : map now c.in_ok-all.all.items ≡ told = c.in_ok-all.ensures ∙ ap rows_in c.as_str.ensures.value in
    let cut : map now c.as_slice.result.now ≡ told = ap (map now) c.as_slice.ensures.value ∙ kept in
    let read : map now c.as_slice-2.result.now ≡ told = ap (map now) c.as_slice-2.ensures.value ∙ kept in
    let moves : map now c.cut_row.result.1.now ≡ move_rows told = c.cut_row.ensures.rest ∙ ap move_rows cut in
    let last : c.last_row-last.result.now ≡ last_row told = c.last_row-last.ensures ∙ ap last_row read in
    let count : length c.cut_row.result.1.now ≡ length (move_rows told) =
    sym (length-map c.cut_row.result.1.now now) ∙ ap (λ (ts : List (List ℕ)). length ts) moves in
    let named = c.push_players.new.out.items in
    let placed = c.extend_from_slice-2.new.self.items in
    six_put c.args.out.now.items c.extend_from_slice.new.self.items named c.push_last.new.out.items placed
    c.push_stand.new.out.items
    c.extend_from_slice-3.new.self.items
    (codes "{") (players_json g) (last_json (length (move_rows told)) (last_row told)) (codes ",")
    (stand_json c.args.at g.stand (position_in (last_row told)) check) (codes "}")
    c.in_ok-extend_from_slice.ensures.items c.in_ok-push_players.ensures
    (c.in_ok-push_last.ensures ∙ (ap (λ (n : ℕ). named ++ last_json n c.last_row-last.result.now) count
    ∙ ap (λ (t : List ℕ). named ++ last_json (length (move_rows told)) t) last))
    c.in_ok-extend_from_slice-2.ensures.items
    (c.in_ok-push_stand.ensures ∙ ap (λ (t : List ℕ). placed ++ stand_json c.args.at g.stand t check)
    (c.position_in.ensures ∙ ap position_in last))
    c.in_ok-extend_from_slice-3.ensures.items
