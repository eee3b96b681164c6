-- A text has six fields in one way, and a FEN has six.
use Rattle.std.proofs.Common.{◌≡◌, ◌≢◌, ℕ, zero, suc, ◌+◌, ◌^◌, ◌<◌, List, [], ◌∷◌, ◌++◌, length, decimal, Option, Some, None, refl, ap, ◌∙◌, sym, arith}
use Rattle.std.specs.Prelude.{EachIndex, slice_index}
use Rattle.std.proofs.lemmas.List.{length-append}
use Rattle.std.proofs.lemmas.Fmt.{decimal_nonempty}
use Rattle.chess_bits.specs.Square.{Square}
use Rattle.chess_board.specs.Position.{Position}
use Rattle.chess_notation.specs.Fen.{IsPlacementText, IsFenOf, rank_of, row_text, side_letter, or_dash, rights_text, target_text}
use Rattle.chess_fen.specs.Reading.{IsFenField, FenFields, fields_of, HasFields}
use Rattle.chess_fen.proofs.Joined.{AllAbove, SameParts}
use Rattle.chess_fen.proofs.Positions.{IsPlacementText-placement_text}
use Rattle.chess_fen.proofs.Ranks.{ranks_below, placement_text-ranks_below, ranks_below-next}
use Rattle.chess_fen.proofs.OnePosition.{IsPlacementText-above, side_letter-above, rights_text-above, target_text-above, decimal-above}

abbrev Unspaced : List ℕ → Type 0
Unspaced text = EachIndex text (λ i. slice_index text i ≢ 32)

unspaced_rest : (c : ℕ) (text : List ℕ) → Unspaced (c ∷ text) → Unspaced text
unspaced_rest c text h = λ i below. h (suc i) (omega arith)

same_parts : (a b x y : List ℕ) → Unspaced a → Unspaced b → a ++ (32 ∷ x) ≡ b ++ (32 ∷ y) → SameParts a b x y
same_parts [] [] x y ha hb e = record { front = refl; rest = cc }
same_parts [] (d ∷ b) x y ha hb e = let same : d ≡ 32 = cc in absurd (hb 0 (omega arith) same)
same_parts (c ∷ a) [] x y ha hb e = let same : c ≡ 32 = cc in absurd (ha 0 (omega arith) same)
same_parts (c ∷ a) (d ∷ b) x y ha hb e =
    let same : c ≡ d = cc in
    let rest : a ++ (32 ∷ x) ≡ b ++ (32 ∷ y) = cc in
    let parts = same_parts a b x y (unspaced_rest c a ha) (unspaced_rest d b hb) rest in
    record { front = ap (λ h. h ∷ a) same ∙ ap (λ t. d ∷ t) parts.front; rest = parts.rest }

-- the first field of a text, and the rest after it
pub first_field : (text a x b y : List ℕ) → IsFenField a → IsFenField b → text ≡ a ++ (32 ∷ x) → text ≡ b ++ (32 ∷ y) →
    SameParts a b x y
first_field text a x b y in_a in_b e k = same_parts a b x y in_a.unspaced in_b.unspaced (sym e ∙ k)

pub HasFields-unique : (text : List ℕ) (f g : FenFields) → HasFields text f → HasFields text g → f ≡ g
HasFields-unique text f g h k =
    let a = first_field text f.placement _ g.placement _ h.placement k.placement h.joined k.joined in
    let b = first_field _ f.side _ g.side _ h.side k.side refl a.rest in
    let c = first_field _ f.castling _ g.castling _ h.castling k.castling refl b.rest in
    let d = first_field _ f.target _ g.target _ h.target k.target refl c.rest in
    let e = first_field _ f.halfmove f.fullmove g.halfmove g.fullmove h.halfmove k.halfmove refl d.rest in
    ap (λ x. fields_of x f.side f.castling f.target f.halfmove f.fullmove) a.front
    ∙ (ap (λ x. fields_of g.placement x f.castling f.target f.halfmove f.fullmove) b.front
    ∙ (ap (λ x. fields_of g.placement g.side x f.target f.halfmove f.fullmove) c.front
    ∙ (ap (λ x. fields_of g.placement g.side g.castling x f.halfmove f.fullmove) d.front
    ∙ (ap (λ x. fields_of g.placement g.side g.castling g.target x f.fullmove) e.front
    ∙ ap (λ x. fields_of g.placement g.side g.castling g.target g.halfmove x) e.rest))))

-- The fields of a FEN are fields.
AllAbove-unspaced : (text : List ℕ) → AllAbove 32 text → Unspaced text
AllAbove-unspaced [] h i below = absurd (omega arith)
AllAbove-unspaced (c ∷ text) h zero below = λ e. absurd (omega (arith, h.0))
AllAbove-unspaced (c ∷ text) h (suc i) below = AllAbove-unspaced text h.1 i (omega arith)

above_field : (text : List ℕ) → 0 < length text → AllAbove 32 text → IsFenField text
above_field text filled above = record {
  filled = λ e. let none : length text ≡ 0 = ap length e in absurd (omega arith);
  unspaced = AllAbove-unspaced text above;
}

placement_filled : (text : List ℕ) (p : Position) → IsPlacementText text p.placement → 0 < length text
placement_filled text p h =
    let men = p.placement in
    let row = row_text (rank_of men 8) in
    let rest = row_text (rank_of men 7) ++ ranks_below men 7 in
    let e : text ≡ row ++ (47 ∷ rest) =
    IsPlacementText-placement_text text men h ∙ (placement_text-ranks_below men
    ∙ ap (λ t. row ++ t) (ranks_below-next men 8 (omega arith))) in
    let long : length text ≡ length row + suc (length rest) = ap length e ∙ length-append row (47 ∷ rest) in
    omega arith

or_dash-filled : (text : List ℕ) → 0 < length (or_dash text)
or_dash-filled [] = omega arith
or_dash-filled (c ∷ text) = omega arith

target_text-filled : (target : Option Square) → 0 < length (target_text target)
target_text-filled None = omega arith
target_text-filled (Some square) = omega arith

-- the texts of a FEN's fields
abbrev pub fields_in : List ℕ → Position → FenFields
fields_in placement p = fields_of placement (side_letter p.side ∷ []) (rights_text p.rights) (target_text p.target)
    (decimal p.halfmove) (decimal p.fullmove)

pub IsFenOf-HasFields : (text : List ℕ) (p : Position) (h : IsFenOf text p) → p.halfmove < 2 ^ 64 → p.fullmove < 2 ^ 64 →
    HasFields text (fields_in h.placement p)
IsFenOf-HasFields text p h half full = record {
  placement = above_field h.placement (placement_filled h.placement p h.is_placement)
      (IsPlacementText-above h.placement p.placement h.is_placement);
  side = above_field (side_letter p.side ∷ []) (omega arith) (side_letter-above p.side);
  castling = above_field (rights_text p.rights) (or_dash-filled _) (rights_text-above p.rights);
  target = above_field (target_text p.target) (target_text-filled p.target) (target_text-above p.target);
  halfmove = above_field (decimal p.halfmove) (decimal_nonempty p.halfmove half) (decimal-above p.halfmove half);
  fullmove = above_field (decimal p.fullmove) (decimal_nonempty p.fullmove full) (decimal-above p.fullmove full);
  joined = h.joined;
}
