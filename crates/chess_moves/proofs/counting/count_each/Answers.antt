use Rattle.std.proofs.Common.{◌∙◌, arith, ap}
use Rattle.chess_bits.specs.SquaresOf.{squares_left}
use Rattle.chess_moves.specs.Listing.{legal_from}
use Rattle.chess_moves.specs.Counting.{moves_of}
use Rattle.chess_moves.proofs.Counted.{count_room}
use Rattle.chess_moves.proofs.Tallied.{count_start, count_member, count_next, count_last}
use Rattle.chess_moves.proofs.counting.count_each.Goals as goal

pub loop-from-init : goal.loop-from-init
loop-from-init c =
    count_start c.args.board.now c.args.men (squares_left c.into_iter-from-iterator.result)
    (ap squares_left c.into_iter-from-iterator.ensures.into_iter_gives ∙ c.iter-from-items.ensures)

pub overflow_add-count : goal.overflow_add-count
overflow_add-count c =
    let p = c.args.board.now in
    let more = count_room (legal_from p) c.loop-from.count (moves_of p c.args.men) c.in-Some.from
    (squares_left c.next.new.self) (squares_left c.loop-from.from-iterator) c.loop-from.invariant.sum
    c.in-Some.ensures.steps in
    omega (arith, more, c.count_free-count.ensures, c.requires.few)

pub loop-from-preserved : goal.loop-from-preserved
loop-from-preserved c =
    count_next c.args.board.now c.args.men c.loop-from.count c.count_free-count.result c.in-Some.from
    (squares_left c.next.new.self) (squares_left c.loop-from.from-iterator) c.loop-from.invariant
    c.in-Some.ensures.steps c.count_free-count.ensures

pub returns : goal.returns
returns c =
    count_last c.args.board.now c.args.men c.loop-from.count (squares_left c.loop-from.from-iterator)
    c.loop-from.invariant c.in-None.ensures.steps.0

pub count_free-count-requires-clause-free : goal.count_free-count-requires-clause-free
count_free-count-requires-clause-free c =
    c.requires.free c.in-Some.from
    (count_member c.args.board.now c.args.men c.loop-from.count c.in-Some.from (squares_left c.next.new.self)
    (squares_left c.loop-from.from-iterator) c.loop-from.invariant c.in-Some.ensures.steps)
