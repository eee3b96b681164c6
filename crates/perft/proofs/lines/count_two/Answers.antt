use Rattle.std.proofs.Common.{◌≡◌, ◌∙◌, ◌+◌, ◌^◌, ◌-◌, ◌++◌, ◌∷◌, [], length, take, arith, ap, sym}
use Rattle.std.specs.Prelude.{Contains, min}
use Rattle.std.proofs.lemmas.List.{take_all}
use Rattle.std.proofs.lemmas.List.{take_more}
use Rattle.chess_board.specs.declared.moves.Move.{Move}
use Rattle.chess_board.specs.Next.{next}
use Rattle.perft.specs.Lines.{IsNumberOfLines}
use Rattle.perft.proofs.Through.{HasLinesThrough, moves_alone, through_more, through_all, not_yet}
use Rattle.perft.proofs.lines.count_two.Goals as goal

pub apply-requires-clause-legal : goal.apply-requires-clause-legal
apply-requires-clause-legal c =
    let here : Contains c.as_slice-mv-items.result.now c.mv-item.result =
    (c.loop-mv.mv-index, c.loop-mv-test.true, sym c.mv-item.is) in
    (c.relist_legal_moves.ensures.exact c.mv-item.result).0 (rw c.as_slice-mv-items.ensures.value at here)

pub loop-mv-preserved : goal.loop-mv-preserved
loop-mv-preserved c =
    let p = c.args.board.now in
    let m = c.mv-item.result in
    let items = c.as_slice-mv-items.result.now in
    let i = c.loop-mv.mv-index in
    let below = c.loop-mv-test.true in
    let distinct = rw (sym c.as_slice-mv-items.ensures.value) at c.relist_legal_moves.ensures.distinct in
    let n = c.count_moves.ensures in
    let alone = moves_alone c.apply.result n.moves n.listed in
    let counted : IsNumberOfLines (next p m) 1 (length n.moves) = rw c.apply.ensures.next at alone in
    let few : c.from.result ≡ min (length n.moves) (2 ^ 64 - 1) = omega (arith, n.number, c.from.ensures) in
    let more = through_more p (take i items) m 1 c.loop-mv.count c.from.result (length n.moves) c.loop-mv.invariant
    counted few (not_yet items i m distinct below (sym c.mv-item.is)) in
    let taken : take (i + 1) items ≡ take i items ++ m ∷ [] =
    take_more items i m below ∙ ap (λ (x : Move). take i items ++ x ∷ []) (sym c.mv-item.is) in
    rw (taken, c.saturating_add-count.ensures) more

pub returns : goal.returns
returns c =
    let p = c.args.board.now in
    let items = c.as_slice-mv-items.result.now in
    let listed = rw (sym c.as_slice-mv-items.ensures.value) at c.relist_legal_moves.ensures in
    let all : take c.loop-mv.mv-index items ≡ items = take_all c.loop-mv.mv-index items c.loop-mv-test.false in
    let through : HasLinesThrough p items 1 c.loop-mv.count = rw all at c.loop-mv.invariant in
    through_all p items 1 c.loop-mv.count listed through
