use Rattle.std.proofs.Common.{◌∙◌, ap, sym, List, Bool, length}
use Rattle.std.proofs.lemmas.Bool.{eqb-true, eq-eqb}
use Rattle.chess_bits.specs.Man.{holds}
use Rattle.chess_bits.specs.Table.{members, without}
use Rattle.chess_bits.proofs.MemberLemmas.{length-members_map}
use Rattle.chess_board.specs.Occupancy.{squares_with}
use Rattle.chess_end.specs.Computing.{is_other}
use Rattle.chess_end.proofs.Dead.{knight-then, knight-else}
use Rattle.chess_end.proofs.material.are_kings_and_knight.Goals as goal

pub returns-then-count-eq1 : goal.returns-then-count-eq1
returns-then-count-eq1 c =
    let counted = c.count.ensures ∙ ap (λ (bs : List Bool). length (members bs)) c.others-others.ensures
    ∙ length-members_map (holds is_other) c.args.men.now c.requires in
    knight-then c.args.men.now c.without.result c.is_empty.result c.requires (sym counted ∙ c.if-count-eq1.true)
    (c.without.ensures ∙ ap (λ (x : List Bool). without x c.of_kind.result) c.others-others.ensures
    ∙ ap (without (squares_with is_other c.args.men.now)) c.of_kind.ensures)
    c.is_empty.ensures

pub returns-else-count-eq1 : goal.returns-else-count-eq1
returns-else-count-eq1 c =
    let counted = c.count.ensures ∙ ap (λ (bs : List Bool). length (members bs)) c.others-others.ensures
    ∙ length-members_map (holds is_other) c.args.men.now c.requires in
    knight-else c.args.men.now _ c.requires
    (λ e. sym counted ∙ eqb-true c.count.result 1 e, λ one. eq-eqb c.count.result 1 (counted ∙ one))
    (λ one. c.if-count-eq1.false (counted ∙ one))
