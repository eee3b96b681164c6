-- The placement after a move, for each kind of move.
use Rattle.std.specs.Prelude.{◌≡◌, ◌≢◌, true, false, ◌&&◌, not, ◌==◌, List, length, Option, Some, None}
use Rattle.std.proofs.Common.{arith, inl, inr, ap, sym, ◌∙◌}
use Rattle.std.proofs.lemmas.Bool.{cases_Bool, and_parts, and_left, false_from_ne_true}
use Rattle.chess_bits.specs.declared.men.Colour.{Colour}
use Rattle.chess_bits.specs.declared.men.Colour.TheVariants.{White, Black}
use Rattle.chess_bits.specs.declared.men.Kind.TheVariants.{Pawn, Knight, Bishop, Rook, Queen, King}
use Rattle.chess_bits.specs.Square.{Square, IsOnBoard, is_square}
use Rattle.chess_bits.specs.Man.{Man, is_kind, holds}
use Rattle.chess_bits.specs.Table.{put}
use Rattle.chess_bits.proofs.TableLemmas.{length-put, is_square-true, IsOnBoard-from_test}
use Rattle.chess_board.specs.declared.castling.Wing.{Wing}
use Rattle.chess_board.specs.declared.castling.Wing.TheVariants as wing
use Rattle.chess_board.specs.declared.moves.Move.{Move}
use Rattle.chess_board.specs.Position.{Position, man_at, king_home, rook_home}
use Rattle.chess_board.specs.Next.{moves_kind, is_en_passant, is_target, beside, castled_king, castles_to, castled_rook, became, without_taken, with_rook, placement_after}
use Rattle.chess_board.proofs.Moved.{moved, length-moved}

pub length-without_taken : (p : Position) (m : Move) (t : List (Option Man)) → length (without_taken p m t) ≡ length t
length-without_taken p m t = elim (cases_Bool (is_en_passant p m)) [
  | inl e ↦ rw e (length-put t (beside m) None)
  | inr e ↦ rw e
]

pub length-with_rook : (p : Position) (m : Move) (w : Wing) (t : List (Option Man)) →
    length (with_rook p m w t) ≡ length t
length-with_rook p m w t = elim (cases_Bool (castles_to p m w)) [
  | inl e ↦ rw e (length-moved t (rook_home p.side w) (castled_rook p.side w) (Some (p.side, Rook)))
  | inr e ↦ rw e
]

pub length-placement_after : (p : Position) (m : Move) → length (placement_after p m) ≡ length p.placement
unfolding placement_after
length-placement_after p m =
    let left : List (Option Man) = put p.placement m.from None in
    let reached : List (Option Man) = put (without_taken p m left) m.to (became p m) in
    length-with_rook p m wing.Queen (with_rook p m wing.King reached) ∙
    length-with_rook p m wing.King reached ∙
    length-put (without_taken p m left) m.to (became p m) ∙
    length-without_taken p m left ∙
    length-put p.placement m.from None

-- a move that is neither castling nor en passant
pub placement_after-plain : (p : Position) (m : Move) →
    is_en_passant p m ≡ false → castles_to p m wing.King ≡ false → castles_to p m wing.Queen ≡ false →
    placement_after p m ≡ moved p.placement m.from m.to (became p m)
unfolding placement_after
placement_after-plain p m no_pawn no_king no_queen = rw (no_queen, no_king, no_pawn)

-- the kinds of a move exclude one another
pub moves_kind-exclusive : (o : Option Man) → holds (λ man. is_kind Pawn man.1) o ≡ true →
    holds (λ man. is_kind King man.1) o ≡ false
moves_kind-exclusive None e = λ i. false
moves_kind-exclusive (Some (colour, Pawn)) e = λ i. false
moves_kind-exclusive (Some (colour, Knight)) e = λ i. false
moves_kind-exclusive (Some (colour, Bishop)) e = λ i. false
moves_kind-exclusive (Some (colour, Rook)) e = λ i. false
moves_kind-exclusive (Some (colour, Queen)) e = λ i. false
moves_kind-exclusive (Some (colour, King)) e = absurd (cc)

pub no_castling-en_passant : (p : Position) (m : Move) (w : Wing) → is_en_passant p m ≡ true → castles_to p m w ≡ false
no_castling-en_passant p m w e =
    let first = and_parts (moves_kind p m Pawn && not (m.from.file == m.to.file)) (is_target p.target m.to) e in
    let pawn = and_parts (moves_kind p m Pawn) (not (m.from.file == m.to.file)) first.0 in
    and_left (moves_kind p m King && is_square m.from (king_home p.side)) (is_square m.to (castled_king p.side w))
    (and_left (moves_kind p m King) (is_square m.from (king_home p.side))
    (moves_kind-exclusive (man_at p.placement m.from) pawn.0))

pub no_en_passant-castling : (p : Position) (m : Move) (w : Wing) → castles_to p m w ≡ true → is_en_passant p m ≡ false
no_en_passant-castling p m w e =
    false_from_ne_true (is_en_passant p m) (λ pawn. absurd (cc (no_castling-en_passant p m w pawn)))

pub castles_to-true : (p : Position) (m : Move) (w : Wing) → castles_to p m w ≡ true →
    (m.from ≡ king_home p.side) × (m.to ≡ castled_king p.side w)
castles_to-true p m w e =
    let starts = and_parts (moves_kind p m King && is_square m.from (king_home p.side))
    (is_square m.to (castled_king p.side w)) e in
    let moves = and_parts (moves_kind p m King) (is_square m.from (king_home p.side)) starts.0 in
    (is_square-true m.from (king_home p.side) moves.1, is_square-true m.to (castled_king p.side w) starts.1)

other_wing : (side : Colour) → castled_king side wing.King ≢ castled_king side wing.Queen
other_wing side e = absurd (omega (arith, ap (λ (s : Square). s.file) e))

pub placement_after-en_passant : (p : Position) (m : Move) → is_en_passant p m ≡ true →
    placement_after p m ≡ put (put (put p.placement m.from None) (beside m) None) m.to (became p m)
unfolding placement_after
placement_after-en_passant p m pawn =
    rw (no_castling-en_passant p m wing.Queen pawn, no_castling-en_passant p m wing.King pawn, pawn)

-- castling: the king moves, and then the rook
pub placement_after-castling : (p : Position) (m : Move) (w : Wing) → castles_to p m w ≡ true →
    placement_after p m ≡ moved (moved p.placement m.from m.to (became p m)) (rook_home p.side w)
    (castled_rook p.side w) (Some (p.side, Rook))
unfolding placement_after
placement_after-castling p m wing.King castles =
    let no_queen : castles_to p m wing.Queen ≡ false = false_from_ne_true (castles_to p m wing.Queen) (λ e.
    other_wing p.side (sym (castles_to-true p m wing.King castles).1 ∙ (castles_to-true p m wing.Queen e).1)) in
    rw (no_queen, castles, no_en_passant-castling p m wing.King castles)
placement_after-castling p m wing.Queen castles =
    let no_king : castles_to p m wing.King ≡ false = false_from_ne_true (castles_to p m wing.King) (λ e.
    other_wing p.side (sym (castles_to-true p m wing.King e).1 ∙ (castles_to-true p m wing.Queen castles).1)) in
    rw (castles, no_king, no_en_passant-castling p m wing.Queen castles)

pub IsOnBoard-castled_rook : (side : Colour) (w : Wing) → IsOnBoard (castled_rook side w)
IsOnBoard-castled_rook White wing.King = IsOnBoard-from_test (castled_rook White wing.King) (λ i. true)
IsOnBoard-castled_rook White wing.Queen = IsOnBoard-from_test (castled_rook White wing.Queen) (λ i. true)
IsOnBoard-castled_rook Black wing.King = IsOnBoard-from_test (castled_rook Black wing.King) (λ i. true)
IsOnBoard-castled_rook Black wing.Queen = IsOnBoard-from_test (castled_rook Black wing.Queen) (λ i. true)
