use Rattle.std.proofs.Common.{◌∙◌, ap, List, Bool}
use Rattle.chess_bits.specs.Man.{is_of}
use Rattle.chess_bits.specs.Table.{meet}
use Rattle.chess_board.specs.Occupancy.{squares_with}
use Rattle.chess_board.proofs.AttackLemmas.{meet-is_man}
use Rattle.chess_board.proofs.men.Men.of_man.Goals as goal

pub returns : goal.returns
returns c =
    c.meet.ensures ∙ ap (λ (x : List Bool). meet x c.of_kind.result) c.of.ensures
    ∙ ap (meet (squares_with (is_of c.args.colour) c.args.self.now)) c.of_kind.ensures
    ∙ meet-is_man c.args.self.now c.args.colour c.args.kind
