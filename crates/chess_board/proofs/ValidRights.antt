-- After a legal move each castling right that is left has its king and rook at home.
use Rattle.std.specs.Prelude.{◌≡◌, ◌≢◌, true, false, ◌&&◌, not, Some}
use Rattle.std.proofs.Common.{arith, inl, inr, ap, sym, ◌∙◌}
use Rattle.std.proofs.lemmas.Bool.{and_parts, or_parts, not-true}
use Rattle.chess_bits.specs.declared.men.Colour.{Colour}
use Rattle.chess_bits.specs.declared.men.Colour.TheVariants.{White, Black}
use Rattle.chess_bits.specs.declared.men.Kind.{Kind}
use Rattle.chess_bits.specs.declared.men.Kind.TheVariants.{Pawn, Rook, King}
use Rattle.chess_bits.specs.Square.{Square, is_square}
use Rattle.chess_bits.specs.Man.{Man, other}
use Rattle.chess_bits.proofs.TableLemmas.{is_square-false}
use Rattle.chess_bits.proofs.ManLemmas.{same_kind}
use Rattle.chess_board.specs.declared.castling.Wing.{Wing}
use Rattle.chess_board.specs.declared.castling.Wing.TheVariants as wing
use Rattle.chess_board.specs.declared.moves.Move.{Move}
use Rattle.chess_board.specs.Position.{Position, has_right, man_at, home_rank, king_home, rook_home, IsValid, HasTrueRights}
use Rattle.chess_board.specs.Next.{beside, castled_rook, touches, keeps_right, rights_after, placement_after, next}
use Rattle.chess_board.proofs.Candidates.{IsOnBoard-from_man, IsEnPassant, IsCastling, IsMove, Goes}
use Rattle.chess_board.proofs.Steps.{others-step}
use Rattle.chess_board.proofs.Ways.{IsStep-plain, IsStep-en_passant, IsStep-king, IsStep-rook, without_pawn, king_moved, man_at-without_pawn}

-- a square that the move does not touch
pub record IsUntouched (m : Move) (q : Square) : Type 0 where
  pub from : m.from ≢ q
  pub to : m.to ≢ q

pub IsUntouched-from_test : (m : Move) (q : Square) → touches m q ≡ false → IsUntouched m q
IsUntouched-from_test m q e =
    let both = or_parts (is_square m.from q) (is_square m.to q) e in
    record { from = is_square-false m.from q both.0; to = is_square-false m.to q both.1 }

home_ranks : (side c : Colour) → c ≢ side → home_rank c ≢ home_rank side
home_ranks White White e = absurd (e (λ i. White))
home_ranks White Black e = omega arith
home_ranks Black White e = omega arith
home_ranks Black Black e = absurd (e (λ i. Black))

rank-rook_home : (c : Colour) (w : Wing) → (rook_home c w).rank ≡ home_rank c
rank-rook_home c wing.King = λ i. home_rank c
rank-rook_home c wing.Queen = λ i. home_rank c

rank-castled_rook : (c : Colour) (w : Wing) → (castled_rook c w).rank ≡ home_rank c
rank-castled_rook c wing.King = λ i. home_rank c
rank-castled_rook c wing.Queen = λ i. home_rank c

stays-en_passant : (p : Position) (m : Move) (kind new : Kind) (q : Square) (man : Man) → IsValid p →
    Goes p m kind new → IsEnPassant p m →
    IsUntouched m q → man_at p.placement q ≡ Some man → man.1 ≢ Pawn → man_at (placement_after p m) q ≡ Some man
stays-en_passant p m kind new q man valid goes en_passant untouched here piece =
    let not_beside : beside m ≢ q = λ e.
    piece (sym (same_kind (man_at p.placement q) (other p.side, Pawn) man (rw (← e) en_passant.taken) here)) in
    others-step (without_pawn p m) (placement_after p m) p.side m.from m.to kind new q
    (IsStep-en_passant p m kind new valid goes en_passant)
    (λ e. untouched.from (sym e)) (λ e. untouched.to (sym e)) ∙
    man_at-without_pawn p m q en_passant (IsOnBoard-from_man p.placement q man here) not_beside ∙
    here

stays-castling : (p : Position) (m : Move) (w : Wing) (q : Square) (man : Man) → IsValid p → IsCastling p m w →
    IsUntouched m q → man_at p.placement q ≡ Some man → q.rank ≢ home_rank p.side →
    man_at (placement_after p m) q ≡ Some man
stays-castling p m w q man valid castling untouched here away =
    others-step (king_moved p m) (placement_after p m) p.side (rook_home p.side w) (castled_rook p.side w) Rook Rook q
    (IsStep-rook p m w valid castling)
    (λ e. away (ap (λ (s : Square). s.rank) e ∙ rank-rook_home p.side w))
    (λ e. away (ap (λ (s : Square). s.rank) e ∙ rank-castled_rook p.side w)) ∙
    others-step p.placement (king_moved p m) p.side m.from m.to King King q (IsStep-king p m valid castling.goes)
    (λ e. untouched.from (sym e)) (λ e. untouched.to (sym e)) ∙
    here

other_side : (p : Position) (m : Move) (w : Wing) (c : Colour) → IsCastling p m w → IsUntouched m (king_home c) →
    c ≢ p.side
other_side p m w c castling untouched e = untouched.from (rw e castling.from)

-- a king or rook at home stays, if its king's home and its own are not touched
stays_home : (p : Position) (m : Move) (kind : Kind) (c : Colour) (q : Square) (piece : Kind) → IsValid p →
    IsMove p m kind →
    IsUntouched m (king_home c) → IsUntouched m q → q.rank ≡ home_rank c → man_at p.placement q ≡ Some (c, piece) →
    piece ≢ Pawn →
    man_at (placement_after p m) q ≡ Some (c, piece)
stays_home p m kind c q piece valid move king untouched home here no_pawn = elim move.way [
  | inl plain ↦
      others-step p.placement (placement_after p m) p.side m.from m.to kind move.new q
      (IsStep-plain p m kind move.new valid move.goes plain)
      (λ e. untouched.from (sym e)) (λ e. untouched.to (sym e)) ∙
      here
  | inr (inl en_passant) ↦
      stays-en_passant p m kind move.new q (c, piece) valid move.goes en_passant untouched here no_pawn
  | inr (inr (inl castling)) ↦
      stays-castling p m wing.King q (c, piece) valid castling untouched here
      (λ e. home_ranks p.side c (other_side p m wing.King c castling king) (sym home ∙ e))
  | inr (inr (inr castling)) ↦
      stays-castling p m wing.Queen q (c, piece) valid castling untouched here
      (λ e. home_ranks p.side c (other_side p m wing.Queen c castling king) (sym home ∙ e))
]

pub has_right-rights_after : (p : Position) (m : Move) (c : Colour) (w : Wing) →
    has_right (rights_after p m) c w ≡ keeps_right p m c w
unfolding rights_after
has_right-rights_after p m White wing.King = λ i. keeps_right p m White wing.King
has_right-rights_after p m White wing.Queen = λ i. keeps_right p m White wing.Queen
has_right-rights_after p m Black wing.King = λ i. keeps_right p m Black wing.King
has_right-rights_after p m Black wing.Queen = λ i. keeps_right p m Black wing.Queen

-- a right that is kept was there, and neither home is touched
pub record IsKept (p : Position) (m : Move) (c : Colour) (w : Wing) : Type 0 where
  pub right : has_right p.rights c w ≡ true
  pub king : IsUntouched m (king_home c)
  pub rook : IsUntouched m (rook_home c w)

pub IsKept-from_test : (p : Position) (m : Move) (c : Colour) (w : Wing) → keeps_right p m c w ≡ true → IsKept p m c w
IsKept-from_test p m c w e =
    let both = and_parts (has_right p.rights c w && not (touches m (king_home c))) (not (touches m (rook_home c w)))
    e in
    let first = and_parts (has_right p.rights c w) (not (touches m (king_home c))) both.0 in
    record {
      right = first.0;
      king = IsUntouched-from_test m (king_home c) (not-true (touches m (king_home c)) first.1);
      rook = IsUntouched-from_test m (rook_home c w) (not-true (touches m (rook_home c w)) both.1);
    }

pub HasTrueRights-next : (p : Position) (m : Move) (kind : Kind) → IsValid p → IsMove p m kind →
    HasTrueRights (next p m)
HasTrueRights-next p m kind valid move c w right =
    let kept = IsKept-from_test p m c w (rw (← has_right-rights_after p m c w) right) in
    let home = valid.rights c w kept.right in (
      stays_home p m kind c (king_home c) King valid move kept.king kept.king (λ i. home_rank c) home.0
          (λ e. absurd (cc)),
      stays_home p m kind c (rook_home c w) Rook valid move kept.king kept.rook (rank-rook_home c w) home.1
          (λ e. absurd (cc)),
    )
