use Rattle.std.proofs.Common.{◌≡◌, ◌∙◌, ◌+◌, ◌++◌, ◌∷◌, [], take, ap, sym, arith}
use Rattle.std.specs.List.{All}
use Rattle.std.proofs.lemmas.List.{take_more, take_all}
use Rattle.std.proofs.lemmas.List.Elements.{All-push, All-contains}
use Rattle.chess_board.specs.Position.{Position}
use Rattle.chess_mates.specs.Closed.{IsQuiet}
use Rattle.chess_mates.proofs.closing.is_closed.Goals as goal

pub loop-board-init : goal.loop-board-init
loop-board-init c k d below = absurd (omega arith)

pub loop-board-preserved : goal.loop-board-preserved
loop-board-preserved c =
    let list = c.args.boards.now in
    let side = c.args.side in
    let i = c.loop-board.board-index in
    let q : Position = c.board-item.result in
    let taken : take (i + 1) list ≡ take i list ++ q ∷ [] =
    take_more list i q c.loop-board-test.true ∙ ap (λ (x : Position). take i list ++ x ∷ []) (sym c.board-item.is) in
    rw taken (All-push (λ (p : Position). IsQuiet side list p) (take i list) q c.loop-board.invariant
    (c.is_quiet.ensures c.if-not-is_quiet.false))

pub returns : goal.returns
returns c told p inside =
    let list = c.args.boards.now in
    let side = c.args.side in
    let i = c.loop-board.board-index in
    let all : take i list ≡ list = take_all i list c.loop-board-test.false in
    let quiet : All (λ (p : Position). IsQuiet side list p) list = rw all at c.loop-board.invariant in
    All-contains (λ (p : Position). IsQuiet side list p) list p quiet inside
