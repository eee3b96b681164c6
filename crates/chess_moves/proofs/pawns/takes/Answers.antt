use Rattle.std.proofs.Common.{◌≡◌}
use Rattle.std.specs.Prelude.{Some, ◌⊎◌}
use Rattle.chess_bits.specs.Man.{other}
use Rattle.chess_bits.specs.Table.{IsSetOf, empty}
use Rattle.chess_bits.specs.Attack.{Reaches, pawn_attacks}
use Rattle.chess_board.specs.Legal.{HoldsColour}
use Rattle.chess_moves.proofs.SetForms.{both_set, takes_set}
use Rattle.chess_moves.proofs.pawns.takes.Goals as goal

pub returns : goal.returns
returns c =
    let p = c.args.board.now in
    let of_pawn : IsSetOf c.pawn.result (λ s. Reaches (pawn_attacks p.side) c.args.from s) =
    rw c.side.ensures at (c.pawn.ensures empty) in
    rw c.meet.ensures
    (takes_set p c.args.from _
    (both_set c.pawn.result c.takable.result (λ s. Reaches (pawn_attacks p.side) c.args.from s)
    (λ s. HoldsColour p s (other p.side) ⊎ (p.target ≡ Some s)) of_pawn c.takable.ensures))
