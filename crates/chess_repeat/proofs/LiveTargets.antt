-- A target counts exactly where a capture en passant is legal.
use Rattle.std.proofs.Common.{ℕ, if◌then◌else◌, ◌≡◌, ◌≢◌, Bool, true, false, List, [], ◌∷◌, ◌⊎◌, inl, inr, Option, None, Some, refl, ap, sym, subst, cond, ◌&&◌, ◌||◌, ◌↔◌, ◌∙◌, filter, arith}
use Rattle.std.specs.List.{list_any}
use Rattle.std.specs.Bool.{Decides}
use Rattle.std.proofs.lemmas.Option.{same_Some}
use Rattle.std.specs.Cmp.{both_ways}
use Rattle.std.proofs.lemmas.Bool.{cases_Bool, false≢true}
use Rattle.std.proofs.lemmas.Bool.Decides.{Decides-at}
use Rattle.chess_bits.specs.declared.men.Colour.{Colour}
use Rattle.chess_bits.specs.declared.men.Colour.TheVariants.{White, Black}
use Rattle.chess_bits.specs.declared.men.Kind.{Kind}
use Rattle.chess_bits.specs.declared.men.Kind.TheVariants.{Pawn}
use Rattle.chess_bits.specs.Square.{Square, IsOnBoard, squares, number_of}
use Rattle.chess_bits.specs.Man.{is_man, holds}
use Rattle.chess_bits.specs.Attack.{pawn_attacks, reaches, Reaches}
use Rattle.chess_bits.proofs.Deciding.{Decides-reaches, and_decides, Decides-some_square}
use Rattle.chess_bits.proofs.ManLemmas.{Decides-holds_is_man}
use Rattle.chess_board.specs.declared.moves.Move.{Move}
use Rattle.chess_board.specs.Position.{Position, IsValid, man_at, target_rank}
use Rattle.chess_board.specs.Legal.{IsLegal, last_rank}
use Rattle.chess_board.specs.Computing.{is_legal}
use Rattle.chess_board.proofs.Deciding.{Decides-is_legal}
use Rattle.chess_board.proofs.Candidates.{IsOnBoard-from_man}
use Rattle.chess_board.proofs.ValidTarget.{no_promotion_before}
use Rattle.chess_moves.specs.Targets.{plain}
use Rattle.chess_moves.proofs.Parts.{candidate_kind}
use Rattle.chess_repeat.specs.SamePosition.{IsLegalEnPassant, HasLegalEnPassant}
use Rattle.chess_repeat.specs.Key.{is_live, target_code, target_byte}

-- a test that a call of `legal` has told
pub told_legal : (p : Position) (m : Move) (b : Bool) → (b ≡ true) ↔ IsLegal p m → is_legal p m ≡ b
told_legal p m b is =
    both_ways (is_legal p m) b (λ e. is.1 ((Decides-is_legal p m).0 e)) (λ e. (Decides-is_legal p m).1 (is.0 e))

-- a test of some item that a filter keeps
list_any-filter : {A : Type 0} (q p : A → Bool) (xs : List A) →
    list_any q (filter p xs) ≡ list_any (λ x. p x && q x) xs
list_any-filter q p [] = refl
list_any-filter {A = A} q p (x ∷ xs) = by (p x) (list_any-filter q p xs)
  where
    by : (b : Bool) → list_any q (filter p xs) ≡ list_any (λ y. p y && q y) xs →
        list_any q (cond b (x ∷ filter p xs) (filter p xs)) ≡ ((b && q x) || list_any (λ y. p y && q y) xs)
    by true rest = ap (λ (r : Bool). q x || r) rest
    by false rest = rest

-- a pawn on the square can legally take on the target
abbrev pub Takes : Position → Square → Square → Type 0
Takes p t s =
    ((man_at p.placement s ≡ Some (p.side, Pawn)) × Reaches (pawn_attacks p.side) s t) × IsLegal p (plain s t)

Decides-live : (p : Position) (t : Square) → Decides (is_live p t) ((s : Square) × IsOnBoard s × Takes p t s)
Decides-live p t =
    let takes : Square → Bool =
    λ s. holds (is_man (p.side, Pawn)) (man_at p.placement s) && reaches (pawn_attacks p.side) s t in
    let legal : Square → Bool = λ s. is_legal p (plain s t) in
    Decides-at (is_live p t) (list_any (λ s. takes s && legal s) squares) (list_any-filter legal takes squares)
    (Decides-some_square (λ s. takes s && legal s) (Takes p t)
    (λ s on. and_decides (and_decides (Decides-holds_is_man (p.side, Pawn) (man_at p.placement s))
    (Decides-reaches (pawn_attacks p.side) s t)) (Decides-is_legal p (plain s t))))

target_inside : (side : Colour) (rank : ℕ) → rank ≡ target_rank side → rank ≢ last_rank side
target_inside White rank at_target at_last = absurd (omega arith)
target_inside Black rank at_target at_last = absurd (omega arith)

move_plain : (m : Move) (t : Square) → m.to ≡ t → m.promotion ≡ None → m ≡ plain m.from t
move_plain m t to none =
    ap (λ (s : Square). let made : Move = record { from = m.from; to = s; promotion = m.promotion } in made) to
    ∙ ap (λ (o : Option Kind). let made : Move = record { from = m.from; to = t; promotion = o } in made) none

-- a capture en passant is the move of a pawn without a promotion
capture_plain : (p : Position) (m : Move) → IsValid p → IsLegalEnPassant p m → m ≡ plain m.from m.to
capture_plain p m valid capture =
    let inside = target_inside p.side m.to.rank (valid.target m.to capture.takes.crossed).rank in
    let move = candidate_kind p m Pawn capture.pawn capture.legal.candidate in
    move_plain m m.to refl (no_promotion_before p.side m.to m.promotion move.promotion inside)

pub live_from : (p : Position) (m : Move) → IsValid p → IsLegalEnPassant p m → is_live p m.to ≡ true
live_from p m valid capture =
    let Legal : Move → Type 0 = IsLegal p in
    (Decides-live p m.to).1 (
      m.from,
      IsOnBoard-from_man p.placement m.from (p.side, Pawn) capture.pawn,
      ((capture.pawn, capture.takes.attacked), subst Legal (capture_plain p m valid capture) capture.legal),
    )

pub live_to : (p : Position) (t : Square) → p.target ≡ Some t → is_live p t ≡ true → HasLegalEnPassant p
live_to p t e live =
    let found = (Decides-live p t).0 live in (
      plain found.0 t,
      record {
        legal = found.2.1;
        pawn = found.2.0.0;
        takes = record { attacked = found.2.0.1; crossed = e };
      },
    )

-- there is a legal capture en passant, or none
pub cases_live : (p : Position) → IsValid p → HasLegalEnPassant p ⊎ (¬ HasLegalEnPassant p)
cases_live p valid = by p.target refl
  where
    by : (o : Option Square) → p.target ≡ o → HasLegalEnPassant p ⊎ (¬ HasLegalEnPassant p)
    by None e = inr (λ (m, capture). let crossed = capture.takes.crossed in cc)
    by (Some t) e = elim (cases_Bool (is_live p t)) [
      | inl live ↦ inl (live_to p t e live)
      | inr dead ↦ inr (λ (m, capture).
          let there : m.to ≡ t = same_Some m.to t (sym capture.takes.crossed ∙ e) in
          false≢true (sym dead ∙ ap (is_live p) (sym there) ∙ live_from p m valid capture))
    ]

-- the byte of a target that counts
pub target_byte-live : (p : Position) (m : Move) → IsValid p → IsLegalEnPassant p m → target_byte p ≡ number_of m.to
unfolding target_byte
target_byte-live p m valid capture =
    ap (target_code p) capture.takes.crossed
    ∙ ap (λ (b : Bool). if b then number_of m.to else 64) (live_from p m valid capture)

-- and of one that does not, or of none
pub target_byte-dead : (p : Position) → (¬ HasLegalEnPassant p) → target_byte p ≡ 64
unfolding target_byte
target_byte-dead p none = by p.target refl
  where
    by : (o : Option Square) → p.target ≡ o → target_code p o ≡ 64
    by None e = refl
    by (Some t) e = elim (cases_Bool (is_live p t)) [
      | inl live ↦ absurd (none (live_to p t e live))
      | inr dead ↦ ap (λ (b : Bool). if b then number_of t else 64) dead
    ]

-- the byte by what a call has told
pub target_byte-some : (p : Position) (t : Square) (b : Bool) → p.target ≡ Some t → is_live p t ≡ b →
    target_byte p ≡ (if b then number_of t else 64)
unfolding target_byte
target_byte-some p t b e live =
    ap (target_code p) e ∙ ap (λ (x : Bool). if x then number_of t else 64) live

pub target_byte-none : (p : Position) → p.target ≡ None → target_byte p ≡ 64
unfolding target_byte
target_byte-none p e = ap (target_code p) e
