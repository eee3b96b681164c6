-- Keys are equal exactly for the same positions.
use Rattle.std.proofs.Common.{ℕ, ◌≡◌, ◌≢◌, ◌↔◌, inl, inr, List, [], ◌∷◌, ◌++◌, get_or, Some, refl, ap, sym, ◌∙◌, arith}
use Rattle.chess_bits.specs.declared.men.Colour.{Colour}
use Rattle.chess_bits.specs.Square.{Square, IsOnBoard, number_of}
use Rattle.chess_bits.proofs.TableLemmas.{number_of-injective}
use Rattle.chess_board.specs.declared.moves.Move.{Move}
use Rattle.chess_board.specs.Position.{Position, Placement, Rights, IsValid}
use Rattle.chess_board.specs.Next.{placement_after}
use Rattle.chess_board.specs.Computing.{is_legal}
use Rattle.chess_board.proofs.Deciding.{Decides-is_legal}
use Rattle.chess_board.proofs.SamePosition.{same_position}
use Rattle.chess_repeat.specs.SamePosition.{IsLegalEnPassant, IsSamePosition}
use Rattle.chess_repeat.specs.Key.{men_bytes, state_byte, target_byte, key_of}
use Rattle.chess_repeat.proofs.LiveTargets.{cases_live, target_byte-live, target_byte-dead}
use Rattle.chess_repeat.proofs.KeyBytes.{placement-same, state-side, state-rights, key_of-men, key_of-state, key_of-target}

below_64 : (s : Square) → IsOnBoard s → number_of s ≢ 64
below_64 s on e = absurd (omega arith)

-- the counters do not matter to what is legal
legal-same : (p q : Position) (m : Move) → p.placement ≡ q.placement → p.side ≡ q.side → p.rights ≡ q.rights →
    p.target ≡ q.target → is_legal p m ≡ is_legal q m
unfolding placement_after
legal-same p q m placement side rights target =
    let counted : Position = record q { halfmove = p.halfmove; fullmove = p.fullmove } in
    ap (λ (x : Position). is_legal x m)
    (same_position counted p.placement p.side p.rights p.target p.halfmove p.fullmove placement side rights target refl
    refl)

capture-same : (p q : Position) (m : Move) → p.placement ≡ q.placement → p.side ≡ q.side → p.rights ≡ q.rights →
    p.target ≡ q.target → IsLegalEnPassant p m → IsLegalEnPassant q m
capture-same p q m placement side rights target capture = record {
  legal = (Decides-is_legal q m).0 (sym (legal-same p q m placement side rights target)
      ∙ (Decides-is_legal p m).1 capture.legal);
  pawn = rw (← placement, ← side) capture.pawn;
  takes = record { attacked = rw (← side) capture.takes.attacked; crossed = sym target ∙ capture.takes.crossed };
}

-- equal bytes of the targets, by which both positions have the same captures or both none
captures-from : (p q : Position) → IsValid p → IsValid q → p.placement ≡ q.placement → p.side ≡ q.side →
    p.rights ≡ q.rights → target_byte p ≡ target_byte q → (m : Move) → IsLegalEnPassant p m → IsLegalEnPassant q m
captures-from p q valid_p valid_q placement side rights bytes m capture = elim (cases_live q valid_q) [
  | inl (n, other) ↦
      let numbers : number_of m.to ≡ number_of n.to =
      sym (target_byte-live p m valid_p capture) ∙ bytes ∙ target_byte-live q n valid_q other in
      let there : m.to ≡ n.to =
      number_of-injective m.to n.to (valid_p.target m.to capture.takes.crossed).on_board
      (valid_q.target n.to other.takes.crossed).on_board numbers in
      capture-same p q m placement side rights
      (capture.takes.crossed ∙ ap Some there ∙ sym other.takes.crossed) capture
  | inr none ↦
      absurd (below_64 m.to (valid_p.target m.to capture.takes.crossed).on_board
      (sym (target_byte-live p m valid_p capture) ∙ bytes ∙ target_byte-dead q none))
]

pub same_from_keys : (p q : Position) → IsValid p → IsValid q → key_of p ≡ key_of q → IsSamePosition p q
same_from_keys p q valid_p valid_q e =
    let placement : p.placement ≡ q.placement =
    placement-same p.placement q.placement valid_p.whole valid_q.whole (λ k below.
    sym (key_of-men p k below) ∙ ap (λ (bytes : List ℕ). get_or bytes k 0) e ∙ key_of-men q k below) in
    let state : state_byte p.side p.rights ≡ state_byte q.side q.rights =
    sym (key_of-state p) ∙ ap (λ (bytes : List ℕ). get_or bytes 32 0) e ∙ key_of-state q in
    let target : target_byte p ≡ target_byte q =
    sym (key_of-target p) ∙ ap (λ (bytes : List ℕ). get_or bytes 33 0) e ∙ key_of-target q in
    let side = state-side p.side q.side p.rights q.rights state in
    let rights = state-rights p.side q.side p.rights q.rights state in
    record {
      side = side;
      placement = placement;
      rights = rights;
      captures = λ m. (
        captures-from p q valid_p valid_q placement side rights target m,
        captures-from q p valid_q valid_p (sym placement) (sym side) (sym rights) (sym target) m,
      );
    }

-- the same captures give the same byte
target_bytes : (p q : Position) → IsValid p → IsValid q → IsSamePosition p q → target_byte p ≡ target_byte q
target_bytes p q valid_p valid_q same = elim (cases_live p valid_p) [
  | inl (m, capture) ↦
      target_byte-live p m valid_p capture ∙ sym (target_byte-live q m valid_q ((same.captures m).0 capture))
  | inr none ↦
      target_byte-dead p none ∙ sym (target_byte-dead q (λ (m, capture). none (m, (same.captures m).1 capture)))
]

key_with : Placement → Colour → Rights → ℕ → List ℕ
key_with placement side rights target = men_bytes placement ++ (state_byte side rights ∷ target ∷ [])

pub keys_from_same : (p q : Position) → IsValid p → IsValid q → IsSamePosition p q → key_of p ≡ key_of q
unfolding key_of key_with
keys_from_same p q valid_p valid_q same =
    ap (λ (x : Placement). key_with x p.side p.rights (target_byte p)) same.placement
    ∙ ap (λ (x : Colour). key_with q.placement x p.rights (target_byte p)) same.side
    ∙ ap (λ (x : Rights). key_with q.placement q.side x (target_byte p)) same.rights
    ∙ ap (λ (n : ℕ). key_with q.placement q.side q.rights n) (target_bytes p q valid_p valid_q same)

pub keys_same : (p q : Position) → IsValid p → IsValid q → (key_of p ≡ key_of q) ↔ IsSamePosition p q
keys_same p q valid_p valid_q = (same_from_keys p q valid_p valid_q, keys_from_same p q valid_p valid_q)
