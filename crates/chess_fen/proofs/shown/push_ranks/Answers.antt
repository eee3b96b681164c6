use Rattle.std.proofs.Common.{◌≡◌, ◌-◌, length, get_or, ◌∷◌, ◌++◌, append-nil, ap, sym, ◌∙◌, arith}
use Rattle.chess_notation.specs.Fen.{rank_of, row_text}
use Rattle.chess_fen.specs.Shown.{shown_part}
use Rattle.chess_fen.proofs.Ranks.{ranks_below, placement_text-ranks_below, ranks_below-next, ranks_below-last, append_stroke_rank}
use Rattle.chess_fen.proofs.shown.push_ranks.Goals as goal

pub loop-rank-init : goal.loop-rank-init
loop-rank-init c =
    let men = c.args._men.now in
    let eighth = get_or c.args.texts.now 7 c.index-texts-7.result in
    let row : shown_part eighth ≡ row_text (rank_of men 8) =
    (c.requires.texts 8 c.index-texts-7.result (omega arith) (omega arith)).is in
    record {
      text =
          ap (λ t. t ++ ranks_below men 8) c.push_filled.ensures.bytes
          ∙ (ap (λ t. (t ++ shown_part eighth) ++ ranks_below men 8) c.requires.nothing
          ∙ (ap (λ t. t ++ ranks_below men 8) row ∙ sym (placement_text-ranks_below men)));
      room = omega (arith, c.push_filled.ensures.len, ap length c.requires.nothing);
      low = omega arith;
    }

pub loop-rank-preserved : goal.loop-rank-preserved
loop-rank-preserved c =
    let men = c.args._men.now in
    let rank = c.loop-rank.rank in
    let rest = ranks_below men (rank - 1) in
    let next = get_or c.args.texts.now (rank - 1 - 1) c.index-texts-rank.result in
    let row : shown_part next ≡ row_text (rank_of men (rank - 1)) =
    (c.requires.texts (rank - 1) c.index-texts-rank.result (omega arith) (omega arith)).is in
    record {
      text =
          ap (λ t. t ++ rest) c.push_filled-in-loop-rank.ensures.bytes
          ∙ (ap (λ t. (t ++ shown_part next) ++ rest) c.push.ensures.bytes
          ∙ (append_stroke_rank c.loop-rank.text.bytes (shown_part next) rest
          ∙ (ap (λ t. c.loop-rank.text.bytes ++ (47 ∷ (t ++ rest))) row
          ∙ (ap (λ t. c.loop-rank.text.bytes ++ t) (sym (ranks_below-next men rank (omega arith)))
          ∙ c.loop-rank.invariant.text))));
      room = omega arith;
      low = omega arith;
    }

pub returns-clause-bytes : goal.returns-clause-bytes
returns-clause-bytes c =
    let last = ranks_below-last c.args._men.now c.loop-rank.rank (omega arith) in
    sym (append-nil c.loop-rank.text.bytes)
    ∙ (ap (λ t. c.loop-rank.text.bytes ++ t) (sym last) ∙ c.loop-rank.invariant.text)
