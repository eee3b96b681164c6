use Rattle.std.proofs.Common.{◌∙◌, ◌++◌, ap, arith, length}
use Rattle.chess_notation.specs.Fen.{rank_of, row_text}
use Rattle.chess_fen.proofs.ShownLemmas.{rank_filled}
use Rattle.chess_fen.proofs.shown.rank_text.Goals as goal

pub returns : goal.returns
returns c =
    let row = row_text (rank_of c.args.men.now c.args.rank) in
    rank_filled c.push_rank.new.text.bytes _ c.args.men.now c.args.rank
    (c.push_rank.ensures.bytes ∙ ap (λ t. t ++ row) c.new-filled.ensures)
    (omega (arith, c.push_rank.ensures.len, ap length c.new-filled.ensures)) c.fill-end.ensures.end c.fill-end.ensures.filled
