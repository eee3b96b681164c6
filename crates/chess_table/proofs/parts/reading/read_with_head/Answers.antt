use Rattle.std.proofs.Common.{ℕ, ◌≡◌, ◌≤◌, ◌+◌, List, length, take, arith, sym, subst}
use Rattle.chess_board.specs.declared.moves.Move.{Move}
use Rattle.rec_codec.specs.Limits.{ceiling}
use Rattle.chess_table.specs.Part.{HoldsMoves, HasGameAfter}
use Rattle.chess_table.proofs.ReadLemmas.{found, not_found}
use Rattle.chess_table.proofs.parts.reading.read_with_head.Goals.{After-as_slice}
use Rattle.chess_table.proofs.parts.reading.read_with_head.Goals as goal

pub returns-then-not-gather-clause-none : goal.returns-then-not-gather-clause-none
returns-then-not-gather-clause-none c =
    let head = c.args.head.now in
    let rest = c.args.rest.now in
    let count : ceiling head.moves 60 ≡ c.div_ceil-count.result = omega (arith, c.div_ceil-count.ensures) in
    λ game many after.
    c.gather.ensures.none c.if-not-gather.true game.moves
    (subst (λ (n : ℕ). HoldsMoves head.game head.moves (take n rest) game.moves) count after.moves)

gathered : (c : After-as_slice) →
    HoldsMoves c.args.head.now.game c.args.head.now.moves (take (ceiling c.args.head.now.moves 60) c.args.rest.now)
    c.as_slice.result.now
gathered c =
    let head = c.args.head.now in
    let rest = c.args.rest.now in
    let made = c.as_slice.result.now in
    let count : c.div_ceil-count.result ≡ ceiling head.moves 60 = omega (arith, c.div_ceil-count.ensures) in
    subst (λ (n : ℕ). HoldsMoves head.game head.moves (take n rest) made) count
    (subst (λ (ms : List Move). HoldsMoves head.game head.moves (take (c.div_ceil-count.result) rest) ms)
    (sym c.as_slice.ensures.value) (c.gather.ensures.whole c.if-not-gather.false))

pub returns-in-None-clause-none : goal.returns-in-None-clause-none
returns-in-None-clause-none c =
    not_found c.args.head.now c.args.rest.now c.as_slice.result.now
    (gathered (goal.at.returns-in-None-clause-none c).After-as_slice)
    (rw c.in-None.is at c.in_ok-restore.ensures.none)

pub returns-in-Some-clause-some : goal.returns-in-Some-clause-some
returns-in-Some-clause-some c =
    let head = c.args.head.now in
    let rest = c.args.rest.now in
    let count : c.div_ceil-count.result ≡ ceiling head.moves 60 = omega (arith, c.div_ceil-count.ensures) in
    let holds = gathered (goal.at.returns-in-Some-clause-some c).After-as_slice in
    let enough : ceiling head.moves 60 ≤ length rest = omega arith in
    let many : ceiling head.moves 60 + 1 ≡ c.div_ceil-count.result + 1 = omega arith in
    subst (λ (n : ℕ). HasGameAfter head rest c.in-Some.game n) many
    (found head rest c.in-Some.game c.as_slice.result.now enough holds
    (rw c.in-Some.is at c.in_ok-restore.ensures.some))
