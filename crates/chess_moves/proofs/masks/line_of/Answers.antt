use Rattle.std.proofs.Common.{◌≡◌, ℕ, arith, subst}
use Rattle.chess_bits.specs.Table.{IsSetOf}
use Rattle.chess_moves.specs.Masks.{KeepsBelow}
use Rattle.chess_moves.proofs.Singles.{every_set}
use Rattle.chess_moves.proofs.masks.line_of.Goals as goal

pub loop-way-init : goal.loop-way-init
loop-way-init c =
    rw c.from_word-line.ensures
    (every_set (KeepsBelow c.args.board.now c.args.masks.now.king c.args.from 0)
    (λ q way l below. absurd (omega arith)))

pub returns : goal.returns
returns c =
    let Line' : ℕ → Type 0 = λ n. IsSetOf c.loop-way.line (KeepsBelow c.args.board.now c.args.masks.now.king c.args.from n) in
    let all : c.loop-way.way ≡ 8 = omega (arith, c.loop-way-test.false, c.loop-way.auto.way-end) in
    subst Line' all c.loop-way.invariant
