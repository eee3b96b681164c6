use Rattle.std.proofs.Common.{ℕ, List, map, codes}
use Rattle.std.specs.Borrow.{Bor}
use Rattle.text_pgn.specs.Json.{listed}
use Rattle.text_pgn.specs.Spectators.{moves_json, moves_from}
use Rattle.text_pgn.proofs.Appended.{three_put}
use Rattle.text_pgn.proofs.game_file.push_moves.Goals as goal

pub returns : goal.returns
unfolding moves_json
returns c =
    three_put c.args.out.now.items c.extend_from_slice.new.self.items c.push_listed.new.out.items
    c.extend_from_slice-2.new.self.items
    (codes "[") (listed (moves_from (map (λ (row : Bor (List ℕ)). row.now) c.args.rows.now) c.args.clocks.now))
    (codes "]")
    c.in_ok-extend_from_slice.ensures.items c.in_ok-push_listed.ensures c.in_ok-extend_from_slice-2.ensures.items
