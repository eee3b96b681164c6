use Rattle.std.proofs.Common.{◌≡◌, ◌∙◌, ◌++◌, List, ap, sym}
use Rattle.std.specs.Prelude.{flat_map}
use Rattle.chess_bits.specs.declared.men.Colour.{Colour}
use Rattle.chess_bits.specs.Man.{is_of}
use Rattle.chess_bits.specs.Table.{members}
use Rattle.chess_bits.specs.SquaresOf.{squares_left}
use Rattle.chess_board.specs.declared.moves.Move.{Move}
use Rattle.chess_board.specs.Occupancy.{squares_with}
use Rattle.chess_board.specs.Computing.{legal_moves_of}
use Rattle.chess_moves.specs.Listing.{legal_from}
use Rattle.chess_moves.proofs.Listed.{legal_moves_of-parts, IsListOfLegalMoves-computed}
use Rattle.chess_moves.proofs.Taken.{part_room, part_taken, parts_end}
use Rattle.chess_moves.proofs.Bound.{length-legal_moves_of}
use Rattle.chess_moves.proofs.listing.relist_legal_moves.Goals as goal

pub loop-from-init : goal.loop-from-init
loop-from-init c =
    let p = c.args.board.now in
    let start : squares_left c.into_iter-from-iterator.result ≡ members (squares_with (is_of p.side) p.placement) =
    ap squares_left c.into_iter-from-iterator.ensures.into_iter_gives ∙ c.iter-from-items.ensures
    ∙ ap members (c.men_of.ensures.squares
    ∙ ap (λ (side : Colour). squares_with (is_of side) p.placement) c.side.ensures) in
    ap (λ (xs : List Move). xs ++ flat_map (legal_from p) (squares_left c.into_iter-from-iterator.result))
    c.clear.ensures
    ∙ ap (flat_map (legal_from p)) start ∙ sym (legal_moves_of-parts p)

pub push_moves_from-requires-clause-room : goal.push_moves_from-requires-clause-room
push_moves_from-requires-clause-room c =
    part_room (legal_from c.args.board.now) c.loop-from.moves.items (legal_moves_of c.args.board.now) c.in-Some.from
    (squares_left c.next.new.self) (squares_left c.loop-from.from-iterator) 512 c.loop-from.invariant
    c.in-Some.ensures.steps (length-legal_moves_of c.args.board.now c.men_of.ensures.valid)

pub loop-from-preserved : goal.loop-from-preserved
loop-from-preserved c =
    let p = c.args.board.now in
    ap (λ (xs : List Move). xs ++ flat_map (legal_from p) (squares_left c.next.new.self)) c.push_moves_from.ensures
    ∙ part_taken (legal_from p) c.loop-from.moves.items (legal_moves_of p) c.in-Some.from
    (squares_left c.next.new.self) (squares_left c.loop-from.from-iterator) c.loop-from.invariant
    c.in-Some.ensures.steps

pub returns : goal.returns
returns c =
    IsListOfLegalMoves-computed c.args.board.now c.loop-from.moves.items
    (parts_end (legal_from c.args.board.now) c.loop-from.moves.items (legal_moves_of c.args.board.now)
    (squares_left c.loop-from.from-iterator) c.loop-from.invariant c.in-None.ensures.steps.0)
