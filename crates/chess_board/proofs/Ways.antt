-- Each kind of move as steps of men over the board.
use Rattle.std.specs.Prelude.{◌≡◌, ◌≢◌, false, List, Option, Some, None}
use Rattle.std.proofs.Common.{arith, ap, refl, sym, ◌∙◌}
use Rattle.chess_bits.specs.declared.men.Colour.{Colour}
use Rattle.chess_bits.specs.declared.men.Kind.{Kind}
use Rattle.chess_bits.specs.declared.men.Kind.TheVariants.{Pawn, Rook, King}
use Rattle.chess_bits.specs.Square.{Square, IsOnBoard}
use Rattle.chess_bits.specs.Man.{Man, other}
use Rattle.chess_bits.specs.Table.{put}
use Rattle.chess_bits.proofs.TableLemmas.{length-put, at-put_other, put_comm}
use Rattle.chess_bits.proofs.ManLemmas.{none_is_no_man, not_of_both, same_kind}
use Rattle.chess_board.specs.declared.castling.Wing.{Wing}
use Rattle.chess_board.specs.declared.castling.Wing.TheVariants as wing
use Rattle.chess_board.specs.declared.moves.Move.{Move}
use Rattle.chess_board.specs.Position.{Position, man_at, king_home, rook_home, IsValid}
use Rattle.chess_board.specs.Next.{beside, castled_king, castled_rook, became, placement_after}
use Rattle.chess_board.proofs.Moved.{moved}
use Rattle.chess_board.proofs.PlacementAfter.{placement_after-plain, placement_after-en_passant, placement_after-castling, IsOnBoard-castled_rook}
use Rattle.chess_board.proofs.Candidates.{IsOnBoard-from_man, Goes, IsPlain, IsEnPassant, IsCastling}
use Rattle.chess_board.proofs.Steps.{IsStep, others-step, length-step}

-- a step over the board as it stands
IsStep-moved : (p : Position) (m : Move) (mover new : Kind) (after : List (Option Man)) → IsValid p →
    Goes p m mover new → after ≡ moved p.placement m.from m.to (Some (p.side, new)) →
    IsStep p.placement after p.side m.from m.to mover new
IsStep-moved p m mover new after valid goes is = record {
  whole = valid.whole;
  from_on = goes.from_on;
  to_on = goes.to_on;
  own = goes.own;
  free = goes.free;
  spared = goes.spared;
  same_king = goes.same_king;
  after = is;
}

pub IsStep-plain : (p : Position) (m : Move) (mover new : Kind) → IsValid p → Goes p m mover new → IsPlain p m →
    IsStep p.placement (placement_after p m) p.side m.from m.to mover new
IsStep-plain p m mover new valid goes plain =
    IsStep-moved p m mover new (placement_after p m) valid goes
    (placement_after-plain p m plain.no_pawn plain.no_king plain.no_queen ∙
    ap (moved p.placement m.from m.to) goes.becomes)

-- the placement without the pawn taken en passant
abbrev pub without_pawn : Position → Move → List (Option Man)
without_pawn p m = put p.placement (beside m) None

pub IsOnBoard-beside : (p : Position) (m : Move) → IsEnPassant p m → IsOnBoard (beside m)
IsOnBoard-beside p m en_passant = IsOnBoard-from_man p.placement (beside m) (other p.side, Pawn) en_passant.taken

pub beside-from : (p : Position) (m : Move) (kind new : Kind) → Goes p m kind new → IsEnPassant p m → beside m ≢ m.from
beside-from p m kind new goes en_passant e =
    not_of_both (man_at p.placement (beside m)) p.side Pawn kind en_passant.taken (rw e goes.own)

pub beside-to : (p : Position) (m : Move) → IsEnPassant p m → beside m ≢ m.to
beside-to p m en_passant e =
    none_is_no_man (man_at p.placement (beside m)) (other p.side, Pawn) (rw e en_passant.empty) en_passant.taken

pub man_at-without_pawn : (p : Position) (m : Move) (q : Square) → IsEnPassant p m → IsOnBoard q → beside m ≢ q →
    man_at (without_pawn p m) q ≡ man_at p.placement q
man_at-without_pawn p m q en_passant on other_square =
    at-put_other None p.placement (beside m) q None (IsOnBoard-beside p m en_passant) on (λ e. other_square (sym e))

-- en passant: the pawn moves once the other is taken off
pub IsStep-en_passant : (p : Position) (m : Move) (kind new : Kind) → IsValid p → Goes p m kind new → IsEnPassant p m →
    IsStep (without_pawn p m) (placement_after p m) p.side m.from m.to kind new
IsStep-en_passant p m kind new valid goes en_passant =
    let on = IsOnBoard-beside p m en_passant in
    let not_from = beside-from p m kind new goes en_passant in
    let not_to = beside-to p m en_passant in
    let empty : man_at (without_pawn p m) m.to ≡ None = man_at-without_pawn p m m.to en_passant goes.to_on not_to ∙
    en_passant.empty in
    record {
      whole = length-put p.placement (beside m) None ∙ valid.whole;
      from_on = goes.from_on;
      to_on = goes.to_on;
      own = man_at-without_pawn p m m.from en_passant goes.from_on not_from ∙ goes.own;
      free = λ k. none_is_no_man (man_at (without_pawn p m) m.to) (p.side, k) empty;
      spared = none_is_no_man (man_at (without_pawn p m) m.to) (other p.side, King) empty;
      same_king = goes.same_king;
      after = placement_after-en_passant p m en_passant.pawn ∙
          ap (λ t. put t m.to (became p m))
          (put_comm p.placement m.from (beside m) None None goes.from_on on (λ e. not_from (sym e))) ∙
          ap (moved (without_pawn p m) m.from m.to) goes.becomes;
    }

-- castling: the king moves, and then the rook
abbrev pub king_moved : Position → Move → List (Option Man)
king_moved p m = moved p.placement m.from m.to (Some (p.side, King))

pub IsStep-king : (p : Position) (m : Move) → IsValid p → Goes p m King King →
    IsStep p.placement (king_moved p m) p.side m.from m.to King King
IsStep-king p m valid goes = IsStep-moved p m King King (king_moved p m) valid goes refl

castled_rook-king_home : (side : Colour) (w : Wing) → castled_rook side w ≢ king_home side
castled_rook-king_home side wing.King e = absurd (omega (arith, ap (λ (s : Square). s.file) e))
castled_rook-king_home side wing.Queen e = absurd (omega (arith, ap (λ (s : Square). s.file) e))

castled_rook-castled_king : (side : Colour) (w : Wing) → castled_rook side w ≢ castled_king side w
castled_rook-castled_king side wing.King e = absurd (omega (arith, ap (λ (s : Square). s.file) e))
castled_rook-castled_king side wing.Queen e = absurd (omega (arith, ap (λ (s : Square). s.file) e))

pub IsStep-rook : (p : Position) (m : Move) (w : Wing) → IsValid p → IsCastling p m w →
    IsStep (king_moved p m) (placement_after p m) p.side (rook_home p.side w) (castled_rook p.side w) Rook Rook
IsStep-rook p m w valid castling =
    let king = IsStep-king p m valid castling.goes in
    let home_on : IsOnBoard (rook_home p.side w) =
    IsOnBoard-from_man p.placement (rook_home p.side w) (p.side, Rook) castling.rook in
    let crossed_on = IsOnBoard-castled_rook p.side w in
    let not_from : rook_home p.side w ≢ m.from = λ e.
    absurd (cc (same_kind (man_at p.placement m.from) (p.side, Rook) (p.side, King) (rw e at castling.rook)
    castling.goes.own)) in
    let not_to : rook_home p.side w ≢ m.to = λ e.
    none_is_no_man (man_at p.placement m.to) (p.side, Rook) castling.empty (rw e at castling.rook) in
    let empty : man_at (king_moved p m) (castled_rook p.side w) ≡ None =
    others-step p.placement (king_moved p m) p.side m.from m.to King King (castled_rook p.side w) king
    (λ e. castled_rook-king_home p.side w (e ∙ castling.from))
    (λ e. castled_rook-castled_king p.side w (e ∙ castling.to)) ∙
    castling.crossed_empty in
    record {
      whole = length-step p.placement (king_moved p m) p.side m.from m.to King King king;
      from_on = home_on;
      to_on = crossed_on;
      own = others-step p.placement (king_moved p m) p.side m.from m.to King King (rook_home p.side w) king not_from
          not_to ∙ castling.rook;
      free = λ k. none_is_no_man (man_at (king_moved p m) (castled_rook p.side w)) (p.side, k) empty;
      spared = none_is_no_man (man_at (king_moved p m) (castled_rook p.side w)) (other p.side, King) empty;
      same_king = λ i. false;
      after = placement_after-castling p m w castling.castles ∙
          ap (λ man. moved (moved p.placement m.from m.to man) (rook_home p.side w) (castled_rook p.side w)
          (Some (p.side, Rook))) castling.goes.becomes;
    }
