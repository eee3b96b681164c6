use Rattle.std.proofs.Common.{◌≡◌, ◌∙◌, ◌+◌, ◌++◌, ◌∷◌, [], take, ap, sym, subst, arith}
use Rattle.std.specs.Prelude.{Contains}
use Rattle.std.specs.List.{All}
use Rattle.std.proofs.lemmas.List.{take_more, take_all}
use Rattle.std.proofs.lemmas.List.Elements.{All-push, All-contains}
use Rattle.chess_board.specs.declared.moves.Move.{Move}
use Rattle.chess_board.specs.Position.{Position}
use Rattle.chess_board.specs.Next.{next}
use Rattle.chess_mates.specs.Closed.{HasLike}
use Rattle.chess_mates.proofs.closing.leads_into.Goals as goal

pub apply-requires-clause-legal : goal.apply-requires-clause-legal
apply-requires-clause-legal c =
    let here : Contains c.as_slice-mv-items.result.now c.mv-item.result =
    (c.loop-mv.mv-index, c.loop-mv-test.true, sym c.mv-item.is) in
    (c.legal_moves-moves.ensures.exact c.mv-item.result).0 (rw c.as_slice-mv-items.ensures.value at here)

pub loop-mv-init : goal.loop-mv-init
loop-mv-init c k d below = absurd (omega arith)

pub loop-mv-preserved : goal.loop-mv-preserved
loop-mv-preserved c =
    let p : Position = c.args.board.now in
    let list = c.args.boards.now in
    let items = c.as_slice-mv-items.result.now in
    let i = c.loop-mv.mv-index in
    let m = c.mv-item.result in
    let taken : take (i + 1) items ≡ take i items ++ m ∷ [] =
    take_more items i m c.loop-mv-test.true ∙ ap (λ (x : Move). take i items ++ x ∷ []) (sym c.mv-item.is) in
    let here : HasLike list (next p m) =
    subst (λ (q : Position). HasLike list q) c.apply.ensures.next (c.has_like.ensures c.if-not-has_like.false) in
    rw taken (All-push (λ (x : Move). HasLike list (next p x)) (take i items) m c.loop-mv.invariant here)

pub returns : goal.returns
returns c told m legal =
    let p : Position = c.args.board.now in
    let list = c.args.boards.now in
    let items = c.as_slice-mv-items.result.now in
    let i = c.loop-mv.mv-index in
    let all : take i items ≡ items = take_all i items c.loop-mv-test.false in
    let lead : All (λ (x : Move). HasLike list (next p x)) items = rw all at c.loop-mv.invariant in
    let listed = rw (sym c.as_slice-mv-items.ensures.value) at c.legal_moves-moves.ensures in
    All-contains (λ (x : Move). HasLike list (next p x)) items m lead ((listed.exact m).1 legal)
