use Rattle.std.proofs.Common.{◌≡◌, ◌∙◌, length, arith, ap}
use Rattle.std.specs.Prelude.{flat_map}
use Rattle.chess_bits.specs.Table.{members}
use Rattle.chess_bits.specs.SquaresOf.{squares_left}
use Rattle.chess_board.specs.Computing.{legal_moves_of}
use Rattle.chess_moves.specs.Listing.{legal_from}
use Rattle.chess_moves.proofs.Bound.{length-legal_moves_of}
use Rattle.chess_moves.proofs.Counted.{count_room, count_end, counted}
use Rattle.chess_moves.proofs.counting.count_rest.Goals as goal

pub loop-from-init : goal.loop-from-init
loop-from-init c =
    let p = c.args.board.now in
    let start : squares_left c.into_iter-from-iterator.result ≡ members c.args.tally.left =
    ap squares_left c.into_iter-from-iterator.ensures.into_iter_gives ∙ c.iter-from-items.ensures in
    let all : length (flat_map (legal_from p) (squares_left c.into_iter-from-iterator.result)) ≡
    length (flat_map (legal_from p) (members c.args.tally.left)) =
    ap length (ap (flat_map (legal_from p)) start) in
    omega (arith, c.requires.tally.sum)

pub overflow_add-count : goal.overflow_add-count
overflow_add-count c =
    let p = c.args.board.now in
    let more = count_room (legal_from p) c.loop-from.count (length (legal_moves_of p)) c.in-Some.from
    (squares_left c.next.new.self) (squares_left c.loop-from.from-iterator) c.loop-from.invariant
    c.in-Some.ensures.steps in
    omega (arith, more, c.count_from-count.ensures, length-legal_moves_of p c.requires.masks.valid)

pub loop-from-preserved : goal.loop-from-preserved
loop-from-preserved c =
    let p = c.args.board.now in
    let more = count_room (legal_from p) c.loop-from.count (length (legal_moves_of p)) c.in-Some.from
    (squares_left c.next.new.self) (squares_left c.loop-from.from-iterator) c.loop-from.invariant
    c.in-Some.ensures.steps in
    rw c.count_from-count.ensures more

pub returns : goal.returns
returns c =
    let p = c.args.board.now in
    counted p c.loop-from.count
    (count_end (legal_from p) c.loop-from.count (length (legal_moves_of p)) (squares_left c.loop-from.from-iterator)
    c.loop-from.invariant c.in-None.ensures.steps.0)
