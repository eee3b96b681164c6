use Rattle.std.proofs.Common.{◌≡◌, ◌-◌, length, ◌++◌, append-nil, ap, sym, ◌∙◌, arith}
use Rattle.arrayvec.specs.ArrayString.{array_string_len}
use Rattle.chess_notation.specs.Fen.{rank_of, row_text}
use Rattle.chess_fen.proofs.Ranks.{ranks_below, placement_text-ranks_below, ranks_below-next, ranks_below-last, append_stroke_rank}
use Rattle.chess_fen.proofs.fen.placement.Goals as goal

pub loop-rank-init : goal.loop-rank-init
loop-rank-init c =
    let men = c.args.men.now in
    let row = row_text (rank_of men 8) in
    let first : array_string_len c.new-text.result ≡ 0 = ap length c.new-text.ensures in
    record {
      text =
          ap (λ t. t ++ ranks_below men 8) c.push_rank.ensures.bytes
          ∙ (ap (λ t. (t ++ row) ++ ranks_below men 8) c.new-text.ensures ∙ sym (placement_text-ranks_below men));
      room = omega arith;
      low = omega arith;
    }

pub loop-rank-preserved : goal.loop-rank-preserved
loop-rank-preserved c =
    let placement = c.args.men.now in
    let rank = c.loop-rank.rank in
    let row = row_text (rank_of placement (rank - 1)) in
    record {
      text =
          ap (λ t. t ++ ranks_below placement (rank - 1)) c.push_rank-in-loop-rank.ensures.bytes
          ∙ (ap (λ t. (t ++ row) ++ ranks_below placement (rank - 1)) c.push.ensures.bytes
          ∙ (append_stroke_rank c.loop-rank.text.bytes row (ranks_below placement (rank - 1))
          ∙ (ap (λ t. c.loop-rank.text.bytes ++ t) (sym (ranks_below-next placement rank (omega arith)))
          ∙ c.loop-rank.invariant.text)));
      room = omega arith;
      low = omega arith;
    }

pub returns-clause-bytes : goal.returns-clause-bytes
returns-clause-bytes c =
    let last = ranks_below-last c.args.men.now c.loop-rank.rank (omega arith) in
    sym (append-nil c.loop-rank.text.bytes)
    ∙ (ap (λ t. c.loop-rank.text.bytes ++ t) (sym last) ∙ c.loop-rank.invariant.text)
