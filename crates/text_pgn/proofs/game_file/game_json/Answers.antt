use Rattle.std.proofs.Common.{ℕ, List, [], ◌≡◌, ◌++◌, map, codes, ap, ◌∙◌}
use Rattle.std.specs.Borrow.{Bor}
use Rattle.std.specs.String.{string_bytes}
use Rattle.text_pgn.specs.Rows.{rows_in, start_row, move_rows, last_row, position_in}
use Rattle.text_pgn.specs.Spectators.{front_json, moves_json, stand_json}
use Rattle.text_pgn.proofs.Appended.{six_put}
use Rattle.text_pgn.proofs.game_file.game_json.Goals as goal

pub returns : goal.returns
returns c =
    let now = λ (row : Bor (List ℕ)). row.now in
    let g = c.args.game.now in
    let check = c.args.played.now.is_check in
    let told = rows_in (string_bytes c.args.played.now.answer) in
    let kept : map now c.in_ok-all.all.items ≡ told = c.in_ok-all.ensures ∙ ap rows_in c.as_str.ensures.value in
    let cut : map now c.as_slice.result.now ≡ told = ap (map now) c.as_slice.ensures.value ∙ kept in
    let read : map now c.as_slice-2.result.now ≡ told = ap (map now) c.as_slice-2.ensures.value ∙ kept in
    let moves : map now c.cut_row.result.1.now ≡ move_rows told = c.cut_row.ensures.rest ∙ ap move_rows cut in
    let fen : c.position_in-fen.result.now ≡ position_in (last_row told) =
    c.position_in-fen.ensures ∙ ap position_in (c.last_row.ensures ∙ ap last_row read) in
    let empty = c.new-out.result.items in
    let started = c.extend_from_slice.new.self.items in
    let moved = c.extend_from_slice-2.new.self.items in
    six_put [] c.push_front.new.out.items started c.push_moves.new.out.items moved c.push_stand.new.out.items
    c.extend_from_slice-3.new.self.items
    (front_json g (start_row told)) (codes ",\"moves\":") (moves_json (move_rows told) c.args.clocks.now) (codes ",")
    (stand_json g.stand.at g.stand (position_in (last_row told)) check) (codes "}\n")
    (c.in_ok-push_front.ensures
    ∙ (ap (λ (t : List ℕ). empty ++ front_json g t) (c.cut_row.ensures.first ∙ ap start_row cut)
    ∙ ap (λ (t : List ℕ). t ++ front_json g (start_row told)) c.new-out.ensures.items))
    c.in_ok-extend_from_slice.ensures.items
    (c.in_ok-push_moves.ensures ∙ ap (λ (ts : List (List ℕ)). started ++ moves_json ts c.args.clocks.now) moves)
    c.in_ok-extend_from_slice-2.ensures.items
    (c.in_ok-push_stand.ensures ∙ ap (λ (t : List ℕ). moved ++ stand_json g.stand.at g.stand t check) fen)
    c.in_ok-extend_from_slice-3.ensures.items
