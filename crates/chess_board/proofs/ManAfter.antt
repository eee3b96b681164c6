-- What stands on each square after a move, as tests on the square.
use Rattle.std.specs.Prelude.{◌≡◌, false, cond, length, None}
use Rattle.std.proofs.Common.{ap, ◌∙◌}
use Rattle.chess_bits.specs.Square.{Square, IsOnBoard, is_square}
use Rattle.chess_board.specs.declared.castling.Wing.TheVariants as wing
use Rattle.chess_board.specs.declared.moves.Move.{Move}
use Rattle.chess_board.specs.Position.{Position, man_at}
use Rattle.chess_board.specs.Next.{is_en_passant, castles_to, became, placement_after}
use Rattle.chess_board.proofs.Moved.{man_at-moved}
use Rattle.chess_board.proofs.PlacementAfter.{placement_after-plain}

pub man_at-after_plain : (p : Position) (m : Move) (q : Square) → length p.placement ≡ 64 → IsOnBoard m.from →
    IsOnBoard m.to →
    is_en_passant p m ≡ false → castles_to p m wing.King ≡ false → castles_to p m wing.Queen ≡ false →
    man_at (placement_after p m) q ≡ cond (is_square q m.to) (became p m)
    (cond (is_square q m.from) None (man_at p.placement q))
man_at-after_plain p m q whole from_on to_on no_pawn no_king no_queen =
    ap (λ t. man_at t q) (placement_after-plain p m no_pawn no_king no_queen) ∙
    man_at-moved p.placement m.from m.to q (became p m) whole from_on to_on
