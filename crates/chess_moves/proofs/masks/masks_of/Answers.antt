use Rattle.std.proofs.Common.{◌≡◌, ℕ, arith, subst}
use Rattle.chess_moves.specs.Masks.{HoldsMasksBelow}
use Rattle.chess_moves.proofs.masks.masks_of.Goals as goal

pub returns : goal.returns
returns c =
    let Masks' : ℕ → Type 0 = λ n. HoldsMasksBelow c.args.board.now n c.loop-way.masks in
    let all : c.loop-way.way ≡ 8 = omega (arith, c.loop-way-test.false, c.loop-way.auto.way-end) in
    subst Masks' all c.loop-way.invariant
