use Rattle.std.specs.String.{string_bytes}
use Rattle.text_pgn.proofs.Spelled.{start_put}
use Rattle.text_pgn.proofs.rows.push_start.Goals as goal

pub returns : goal.returns
returns c =
    start_put (string_bytes c.args.text.now) (string_bytes c.push_number.new.text) (string_bytes c.push_str.new.self)
    (string_bytes c.push_fen.new.text) c.args.start.now c.in_ok-push_number.ensures.put c.in_ok-push_str.ensures.bytes
    c.in_ok-push_fen.ensures
