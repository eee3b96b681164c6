use Rattle.std.proofs.Common.{◌≡◌, ◌∙◌, ◌+◌, ◌-◌, ◌++◌, ◌∷◌, [], take, arith, ap, sym, suc}
use Rattle.std.specs.Prelude.{Contains}
use Rattle.std.proofs.lemmas.List.{take_all}
use Rattle.std.proofs.lemmas.List.{take_more}
use Rattle.chess_board.specs.declared.moves.Move.{Move}
use Rattle.chess_board.specs.Next.{next}
use Rattle.chess_board.proofs.ValidNext.{halfmove_after-le, fullmove_after-within}
use Rattle.perft.specs.Lines.{IsNumberOfLines}
use Rattle.perft.proofs.Through.{HasLinesThrough, through_more, through_all, not_yet}
use Rattle.perft.proofs.lines.+count_longer.Goals as goal

pub returns-then-depth-eq2 : goal.returns-then-depth-eq2
returns-then-depth-eq2 t c =
    let two = c.if-depth-eq2.true in
    rw two c.count_two.ensures

pub apply-requires-clause-legal : goal.apply-requires-clause-legal
apply-requires-clause-legal t c =
    let here : Contains c.as_slice-mv-items.result.now c.mv-item.result =
    (c.loop-mv.mv-index, c.loop-mv-test.true, sym c.mv-item.is) in
    (c.legal_moves-moves.ensures.exact c.mv-item.result).0 (rw c.as_slice-mv-items.ensures.value at here)

pub count_longer-requires : goal.count_longer-requires
count_longer-requires t c =
    let p = c.args.board.now in
    let m = c.mv-item.result in
    rw c.apply.ensures.next (
      omega (arith, c.decreases, c.requires.longer),
      (
        omega (arith, c.requires.longer, c.if-depth-eq2.false),
        (
          omega (arith, c.requires.halfmove, halfmove_after-le p m, c.requires.longer),
          omega (arith, c.requires.fullmove, (fullmove_after-within p.side p.fullmove).1, c.requires.longer),
        ),
      ),
    )

pub loop-mv-preserved : goal.loop-mv-preserved
loop-mv-preserved t c =
    let p = c.args.board.now in
    let m = c.mv-item.result in
    let items = c.as_slice-mv-items.result.now in
    let i = c.loop-mv.mv-index in
    let below = c.loop-mv-test.true in
    let distinct = rw (sym c.as_slice-mv-items.ensures.value) at c.legal_moves-moves.ensures.distinct in
    let counted : IsNumberOfLines (next p m) (c.args.depth - 1) c.count_longer.ensures.0 =
    rw c.apply.ensures.next at c.count_longer.ensures.1 in
    let more = through_more p (take i items) m (c.args.depth - 1) c.loop-mv.count c.count_longer.result
    c.count_longer.ensures.0 c.loop-mv.invariant counted c.count_longer.ensures.2
    (not_yet items i m distinct below (sym c.mv-item.is)) in
    let taken : take (i + 1) items ≡ take i items ++ m ∷ [] =
    take_more items i m below ∙ ap (λ (x : Move). take i items ++ x ∷ []) (sym c.mv-item.is) in
    rw (taken, c.saturating_add-count.ensures) more

pub returns : goal.returns
returns t c =
    let p = c.args.board.now in
    let items = c.as_slice-mv-items.result.now in
    let listed = rw (sym c.as_slice-mv-items.ensures.value) at c.legal_moves-moves.ensures in
    let all : take c.loop-mv.mv-index items ≡ items = take_all c.loop-mv.mv-index items c.loop-mv-test.false in
    let through : HasLinesThrough p items (c.args.depth - 1) c.loop-mv.count = rw all at c.loop-mv.invariant in
    let whole : suc (c.args.depth - 1) ≡ c.args.depth = omega (arith, c.requires.longer) in
    rw whole at (through_all p items (c.args.depth - 1) c.loop-mv.count listed through)
