use Rattle.std.proofs.Common.{◌∙◌, ap}
use Rattle.chess_bits.specs.declared.men.Colour.{Colour}
use Rattle.chess_bits.specs.Man.{is_of}
use Rattle.chess_board.specs.Occupancy.{squares_with}
use Rattle.chess_moves.proofs.Tallied.{tally_start}
use Rattle.chess_moves.proofs.counting.count_moves.Goals as goal

pub counted-pawns-requires-clause-tally : goal.counted-pawns-requires-clause-tally
counted-pawns-requires-clause-tally c =
    let p = c.args.board.now in
    tally_start p c.men_of.result
    (c.men_of.ensures.squares ∙ ap (λ (side : Colour). squares_with (is_of side) p.placement) c.side.ensures)
    c.men_of.ensures.held.whole
