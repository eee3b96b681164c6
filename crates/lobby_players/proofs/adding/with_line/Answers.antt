use Rattle.std.proofs.Common.{ℕ, ◌<◌, ◌+◌, List, [], length, get_or, map, drop, ap, ◌∙◌, arith}
use Rattle.std.specs.Borrow.{Bor}
use Rattle.std.specs.String.{string_bytes}
use Rattle.lobby_words.specs.Lines.{bytes_of}
use Rattle.lobby_players.specs.Adding.{in_place, is_of}
use Rattle.text_parts.proofs.Items.{items_from}
use Rattle.lobby_players.proofs.Written.{first_true, first_false, put_step, keep_step}
use Rattle.lobby_players.proofs.adding.with_line.Goals as goal
use Rattle.lobby_players.proofs.adding.with_line.Goals.{then-is_first+in_ok-push_line, else-is_first+in_ok-push_line-2}

pub loop-old-preserved : goal.loop-old-preserved
loop-old-preserved c =
    let now = λ (line : Bor (List ℕ)). line.now in
    let p = is_of c.args.name.now in
    let line = c.args.line.now in
    let items = c.as_slice-old-items.result.now in
    let i = c.loop-old.old-index in
    let below : c.loop-old.old-index < length c.as_slice-old-items.result.now = omega (arith, c.loop-old-test.true) in
    let d : Bor (List ℕ) = record { ref_ptr = (0, 0); now = [] } in
    let old = (get_or items i d).now in
    let put = c.loop-old.is_put in
    let text = string_bytes c.loop-old.new in
    let all = bytes_of (in_place p line (map now items)) in
    elim c.if-is_first.branch [
      | then-is_first+in_ok-push_line w ↦
          let first = first_true put (p old) w.if-is_first.ensures in
          put_step p line old (drop i (map now items)) (drop (i + 1) (map now items)) put c.if-is_first.is_put text (string_bytes c.if-is_first.new) all
          (items_from items i d below) first.0 first.1 (cc) (ap string_bytes w.new-is ∙ w.in_ok-push_line.ensures) c.loop-old.invariant
      | else-is_first+in_ok-push_line-2 w ↦
          keep_step p line old (drop i (map now items)) (drop (i + 1) (map now items)) put c.if-is_first.is_put text (string_bytes c.if-is_first.new) all
          (items_from items i d below) (first_false put (p old) w.if-is_first.ensures) (cc) (ap string_bytes w.new-is ∙ w.in_ok-push_line-2.ensures) c.loop-old.invariant
    ]
