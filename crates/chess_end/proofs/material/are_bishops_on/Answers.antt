use Rattle.std.proofs.Common.{◌∙◌, ap, List, Bool}
use Rattle.chess_bits.specs.Table.{meet, without}
use Rattle.chess_board.specs.Occupancy.{squares_with}
use Rattle.chess_end.specs.Computing.{is_other}
use Rattle.chess_end.proofs.Dead.{bishops-empty}
use Rattle.chess_end.proofs.material.are_bishops_on.Goals as goal

pub returns : goal.returns
returns c =
    bishops-empty c.args.men.now c.args.dark c.squares_of.result c.without.result c.is_empty.result c.requires
    c.squares_of.ensures
    (c.without.ensures ∙ ap (λ (x : List Bool). without x c.meet-bishops.result) c.others.ensures
    ∙ ap (without (squares_with is_other c.args.men.now)) (c.meet-bishops.ensures
    ∙ ap (λ (x : List Bool). meet x c.squares_of.result) c.of_kind.ensures))
    c.is_empty.ensures
