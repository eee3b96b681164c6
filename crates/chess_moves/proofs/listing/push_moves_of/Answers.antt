use Rattle.std.proofs.Common.{◌≡◌, ◌∙◌, ◌++◌, ◌≤◌, List, length, arith, ap, sym, length-append}
use Rattle.std.specs.Prelude.{flat_map}
use Rattle.chess_bits.specs.declared.men.Colour.{Colour}
use Rattle.chess_bits.specs.Table.{members}
use Rattle.chess_bits.specs.SquaresOf.{squares_left}
use Rattle.chess_board.specs.declared.moves.Move.{Move}
use Rattle.chess_moves.specs.Listing.{legal_from, choices}
use Rattle.chess_moves.proofs.Counted.{legal_from-safe}
use Rattle.chess_moves.proofs.Taken.{part_room, part_taken}
use Rattle.chess_moves.proofs.listing.push_moves_of.Goals as goal

pub loop-to-init : goal.loop-to-init
loop-to-init c =
    let p = c.args.board.now in
    let start : squares_left c.into_iter-to-iterator.result ≡ members c.safe_targets.result =
    ap squares_left c.into_iter-to-iterator.ensures.into_iter_gives ∙ c.iter-to-items.ensures in
    ap (λ (xs : List Move). c.args.moves.now.items ++ xs)
    (ap (flat_map (choices p.side c.args.kind c.args.from)) start
    ∙ sym (legal_from-safe p c.args.from c.args.kind c.safe_targets.result c.requires.masks.valid.whole c.requires.own
    c.safe_targets.ensures))

pub push_choices-requires : goal.push_choices-requires
push_choices-requires c =
    let p = c.args.board.now in
    let to = c.in-Some.to in
    let most : length (c.args.moves.now.items ++ legal_from p c.args.from) ≤ 512 =
    omega (arith, length-append c.args.moves.now.items (legal_from p c.args.from), c.requires.room) in
    let room = part_room (choices p.side c.args.kind c.args.from) c.loop-to.moves.items
    (c.args.moves.now.items ++ legal_from p c.args.from) to (squares_left c.next.new.self)
    (squares_left c.loop-to.to-iterator) 512 c.loop-to.invariant c.in-Some.ensures.steps most in
    rw c.side-side.ensures room

pub loop-to-preserved : goal.loop-to-preserved
loop-to-preserved c =
    let p = c.args.board.now in
    let to = c.in-Some.to in
    let items = c.loop-to.moves.items in
    let rest = squares_left c.next.new.self in
    ap (λ (xs : List Move). xs ++ flat_map (choices p.side c.args.kind c.args.from) rest)
    (c.push_choices.ensures
    ∙ ap (λ (side : Colour). items ++ choices side c.args.kind c.args.from to) c.side-side.ensures)
    ∙ part_taken (choices p.side c.args.kind c.args.from) items
    (c.args.moves.now.items ++ legal_from p c.args.from) to rest (squares_left c.loop-to.to-iterator)
    c.loop-to.invariant c.in-Some.ensures.steps
