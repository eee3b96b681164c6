use Rattle.std.proofs.Common.{◌∙◌, ap, List, Bool}
use Rattle.chess_bits.specs.Table.{without}
use Rattle.chess_board.specs.Position.{occupied_of}
use Rattle.chess_end.proofs.EachManLemmas.{others-set}
use Rattle.chess_end.proofs.material.others.Goals as goal

pub returns : goal.returns
returns c =
    c.without.ensures ∙ ap (λ (x : List Bool). without x c.of_kind.result) c.occupied.ensures
    ∙ ap (without (occupied_of c.args.men.now)) c.of_kind.ensures ∙ others-set c.args.men.now
