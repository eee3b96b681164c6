use Rattle.std.proofs.Common.{◌∙◌, ◌++◌, ap, arith, length}
use Rattle.chess_notation.specs.Fen.{rank_of, row_text}
use Rattle.chess_fen.proofs.ShownLemmas.{rank_filled}
use Rattle.chess_fen.proofs.shown.renew.Goals as goal

pub returns-then-touched-from : goal.returns-then-touched-from
returns-then-touched-from c =
    let row = row_text (rank_of c.args.men.now c.args.rank) in
    rank_filled c.push_rank.new.text.bytes _ c.args.men.now c.args.rank
    (c.push_rank.ensures.bytes ∙ ap (λ t. t ++ row) c.clear.ensures)
    (omega (arith, c.push_rank.ensures.len, ap length c.clear.ensures)) c.fill-text.ensures.end c.fill-text.ensures.filled
