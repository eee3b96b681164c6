use Rattle.std.proofs.Common.{◌∙◌, ap}
use Rattle.chess_bits.specs.Table.{has}
use Rattle.chess_bits.specs.Man.{holds}
use Rattle.chess_board.specs.Occupancy.{is_a}
use Rattle.chess_board.specs.Position.{Position, man_at}
use Rattle.chess_board.proofs.AttackLemmas.{has-squares_with}
use Rattle.chess_board.proofs.board.Board.holds_kind.Goals as goal

pub returns : goal.returns
returns c =
    c.contains.ensures.member ∙ ap (λ set. has set c.args.square) c.of_kind.ensures
    ∙ has-squares_with (is_a c.args.kind) _ c.args.square
    ∙ ap (λ (p : Position). holds (is_a c.args.kind) (man_at p.placement c.args.square)) c.self.view_is
