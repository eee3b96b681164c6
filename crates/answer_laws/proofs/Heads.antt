-- The first lines of longer answers are written as they are read.
use Rattle.std.proofs.Common.{ℕ, ◌≡◌, ◌<◌, ◌^◌, List, [], ◌∷◌, Some, codes, decimal, ap, ◌∙◌}
use Rattle.chess_entry.specs.State.{GameState}
use Rattle.chess_entry.specs.Bounds.{IsGame}
use Rattle.chess_answer.specs.Reads.{line_count, IsPgnReply, list_line_text}
use Rattle.server_answers.specs.declared.heads.PgnHead.{PgnHead}
use Rattle.server_answers.specs.Heads.{list_in, pgn_in}
use Rattle.server_answers.proofs.Counted.{list_read, pgn_read}
use Rattle.answer_laws.proofs.Joined.{joined_with}

pub list_head_read : (count : ℕ) → count < 2 ^ 32 → list_in (list_line_text count) ≡ Some count
list_head_read count small = ap list_in (joined_with (codes "ok") (codes "list" ∷ decimal count ∷ [])) ∙ list_read count small

pub pgn_head_read : (game : GameState) (line body : List ℕ) → IsGame 20000 game → IsPgnReply game line body → line_count body < 2 ^ 32 →
    pgn_in line ≡ Some (record { game = game.number; lines = line_count body })
pgn_head_read game line body is reply few =
    let head : PgnHead = record { game = game.number; lines = line_count body } in
    ap pgn_in (reply.told ∙ joined_with (codes "ok") (codes "pgn" ∷ decimal game.number ∷ decimal (line_count body) ∷ []))
    ∙ pgn_read head (record { game = is.number; lines = few })
