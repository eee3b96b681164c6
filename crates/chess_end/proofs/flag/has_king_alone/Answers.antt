use Rattle.std.proofs.Common.{◌∙◌, ap, List, Bool}
use Rattle.chess_bits.specs.Man.{is_of}
use Rattle.chess_bits.specs.Table.{without}
use Rattle.chess_board.specs.Occupancy.{squares_with}
use Rattle.chess_end.proofs.EachManLemmas.{king_alone-empty}
use Rattle.chess_end.proofs.flag.has_king_alone.Goals as goal

pub returns : goal.returns
returns c =
    king_alone-empty c.args.men.now c.args.side c.without.result c.is_empty.result
    (c.without.ensures ∙ ap (λ (x : List Bool). without x c.of_kind.result) c.of.ensures
    ∙ ap (without (squares_with (is_of c.args.side) c.args.men.now)) c.of_kind.ensures)
    c.is_empty.ensures
