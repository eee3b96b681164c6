use Rattle.std.proofs.Common.{ℕ, List, ◌++◌, codes, ap, ◌∙◌}
use Rattle.text_pgn.specs.Json.{string, number_or_null}
use Rattle.text_pgn.specs.Rows.{san_in, move_in, position_in}
use Rattle.text_pgn.proofs.Appended.{six_put}
use Rattle.text_pgn.proofs.game_file.push_move.Goals as goal

pub returns : goal.returns
returns c =
    let row = c.args.row.now in
    let old = c.args.out.now.items in
    let first = c.push_text.new.out.items in
    let second = c.push_text-2.new.out.items in
    six_put old first second c.push_text-3.new.out.items c.extend_from_slice.new.self.items c.push_known.new.out.items
    c.extend_from_slice-2.new.self.items
    (codes "[" ++ string (san_in row)) (codes "," ++ string (move_in row)) (codes "," ++ string (position_in row))
    (codes ",")
    (number_or_null c.args.clock) (codes "]")
    (c.in_ok-push_text.ensures ∙ ap (λ (t : List ℕ). old ++ (codes "[" ++ string t)) c.san_in.ensures)
    (c.in_ok-push_text-2.ensures ∙ ap (λ (t : List ℕ). first ++ (codes "," ++ string t)) c.move_in.ensures)
    (c.in_ok-push_text-3.ensures ∙ ap (λ (t : List ℕ). second ++ (codes "," ++ string t)) c.position_in.ensures)
    c.in_ok-extend_from_slice.ensures.items c.in_ok-push_known.ensures c.in_ok-extend_from_slice-2.ensures.items
