use Rattle.std.proofs.Common.{ap, ◌∙◌, ◌++◌, List, ℕ}
use Rattle.std.specs.String.{string_bytes}
use Rattle.text_pgn.proofs.Spelled.{row_put}
use Rattle.text_pgn.proofs.rows.push_row.Goals as goal

pub returns : goal.returns
unfolding lib.Utf8.encode
returns c =
    row_put c.args.number c.args.before.now c.args.after.now c.args.mv.now (string_bytes c.args.text.now)
    (string_bytes c.push_number.new.text)
    (string_bytes c.push.new.self) (string_bytes c.push_str.new.self) (string_bytes c.push_move.new.text)
    (string_bytes c.push_fen.new.text)
    c.write.result.bytes c.write.ensures.san c.in_ok-push_number.ensures.put c.in_ok-push.ensures.bytes
    (c.in_ok-push_str.ensures.bytes ∙ ap (λ (t : List ℕ). string_bytes c.push.new.self ++ t) c.as_str.ensures.value)
    c.in_ok-push_move.ensures.bytes c.in_ok-push_fen.ensures
