-- Attacks by ways: each is a leap, or a slide in one of the eight ways.
use Rattle.std.specs.Prelude.{ℕ, ◌≡◌, ◌⊎◌, ◌%◌, ◌<◌, Bool, List}
use Rattle.std.proofs.Common.{zero, suc, arith, refl, subst, inl, inr}
use Rattle.std.proofs.lemmas.Bool.{cases_lt, cases_eq}
use Rattle.chess_bits.specs.declared.men.Colour.{Colour}
use Rattle.chess_bits.specs.declared.men.Kind.{Kind}
use Rattle.chess_bits.specs.declared.men.Kind.TheVariants.{Pawn, Knight, Bishop, Rook, Queen, King}
use Rattle.chess_bits.specs.declared.steps.Step.{Step}
use Rattle.chess_bits.specs.Square.{Square, IsOnBoard}
use Rattle.chess_bits.specs.Attack.{straight, diagonal, adjoining, SomeOf, SlidesAlong, Attacks}
use Rattle.chess_bits.proofs.Reversal.{facing, Attacks-back}
use Rattle.chess_attacks.specs.Ways.{way_step}
use Rattle.chess_attacks.proofs.WayLemmas.{Adds, rising-rises, falling-falls, rising-adds, falling-adds}
use Rattle.chess_attacks.proofs.Nearest.{Differs, rises-differs, falls-differs}
use Rattle.chess_moves.specs.Masks.{SlidesIn, Leaps}

-- ---- squares of a way

pub way-differs : (way : ℕ) → way < 8 → Differs (way_step way)
way-differs way below = elim (cases_lt way 3) [
  | inl early ↦ rises-differs (way_step way) (rising-rises way (inl early))
  | inr late ↦ elim (cases_eq way 7) [
    | inl last ↦ rises-differs (way_step way) (rising-rises way (inr last))
    | inr other ↦ falls-differs (way_step way) (falling-falls way (omega arith, omega arith))
  ]
]

pub way-adds : (way : ℕ) → way < 8 → Adds (way_step way)
way-adds way below = elim (cases_lt way 3) [
  | inl early ↦ rising-adds way (inl early)
  | inr late ↦ elim (cases_eq way 7) [
    | inl last ↦ rising-adds way (inr last)
    | inr other ↦ falling-adds way (omega arith, omega arith)
  ]
]

-- ---- the ways of ranks and files, and those of diagonals

-- some way below 8 that is even, or odd
abbrev pub InWay : ℕ → (Step → Type 0) → Type 0
InWay odd P = (way : ℕ) × (way < 8) × (way % 2 ≡ odd) × P (way_step way)

pub straight_way : (P : Step → Type 0) → SomeOf P straight → InWay 0 P
straight_way P (inl p) = (0, omega arith, refl, p)
straight_way P (inr (inl p)) = (2, omega arith, refl, p)
straight_way P (inr (inr (inl p))) = (4, omega arith, refl, p)
straight_way P (inr (inr (inr (inl p)))) = (6, omega arith, refl, p)
straight_way P (inr (inr (inr (inr none)))) = absurd none

pub diagonal_way : (P : Step → Type 0) → SomeOf P diagonal → InWay 1 P
diagonal_way P (inl p) = (1, omega arith, refl, p)
diagonal_way P (inr (inl p)) = (3, omega arith, refl, p)
diagonal_way P (inr (inr (inl p))) = (5, omega arith, refl, p)
diagonal_way P (inr (inr (inr (inl p)))) = (7, omega arith, refl, p)
diagonal_way P (inr (inr (inr (inr none)))) = absurd none

pub way_straight : (P : Step → Type 0) (way : ℕ) → way < 8 → way % 2 ≡ 0 → P (way_step way) → SomeOf P straight
way_straight P zero below even p = inl p
way_straight P (suc zero) below even p = absurd (omega arith)
way_straight P (suc (suc zero)) below even p = inr (inl p)
way_straight P (suc (suc (suc zero))) below even p = absurd (omega arith)
way_straight P (suc (suc (suc (suc zero)))) below even p = inr (inr (inl p))
way_straight P (suc (suc (suc (suc (suc zero))))) below even p = absurd (omega arith)
way_straight P (suc (suc (suc (suc (suc (suc zero)))))) below even p = inr (inr (inr (inl p)))
way_straight P (suc (suc (suc (suc (suc (suc (suc zero))))))) below even p = absurd (omega arith)
way_straight P (suc (suc (suc (suc (suc (suc (suc (suc n)))))))) below even p = absurd (omega arith)

pub way_diagonal : (P : Step → Type 0) (way : ℕ) → way < 8 → way % 2 ≡ 1 → P (way_step way) → SomeOf P diagonal
way_diagonal P zero below odd p = absurd (omega arith)
way_diagonal P (suc zero) below odd p = inl p
way_diagonal P (suc (suc zero)) below odd p = absurd (omega arith)
way_diagonal P (suc (suc (suc zero))) below odd p = inr (inl p)
way_diagonal P (suc (suc (suc (suc zero)))) below odd p = absurd (omega arith)
way_diagonal P (suc (suc (suc (suc (suc zero))))) below odd p = inr (inr (inl p))
way_diagonal P (suc (suc (suc (suc (suc (suc zero)))))) below odd p = absurd (omega arith)
way_diagonal P (suc (suc (suc (suc (suc (suc (suc zero))))))) below odd p = inr (inr (inr (inl p)))
way_diagonal P (suc (suc (suc (suc (suc (suc (suc (suc n)))))))) below odd p = absurd (omega arith)

pub odd_or_even : (way : ℕ) → (way % 2 ≡ 0) ⊎ (way % 2 ≡ 1)
odd_or_even way = elim (cases_eq (way % 2) 0) [ inl even ↦ inl even | inr odd ↦ inr (omega arith) ]

queen_parts : (P : Step → Type 0) → SomeOf P adjoining → SomeOf P straight ⊎ SomeOf P diagonal
queen_parts P (inl slide) = inl (inl slide)
queen_parts P (inr (inl slide)) = inl (inr (inl slide))
queen_parts P (inr (inr (inl slide))) = inl (inr (inr (inl slide)))
queen_parts P (inr (inr (inr (inl slide)))) = inl (inr (inr (inr (inl slide))))
queen_parts P (inr (inr (inr (inr rest)))) = inr rest

straight_of_queen : (P : Step → Type 0) → SomeOf P straight → SomeOf P adjoining
straight_of_queen P (inl slide) = inl slide
straight_of_queen P (inr (inl slide)) = inr (inl slide)
straight_of_queen P (inr (inr (inl slide))) = inr (inr (inl slide))
straight_of_queen P (inr (inr (inr (inl slide)))) = inr (inr (inr (inl slide)))
straight_of_queen P (inr (inr (inr (inr none)))) = absurd none

-- ---- attacks in parts

-- a slide in a way of the kind
pub record SlidesBy (occupied : List Bool) (kind : Kind) (a b : Square) : Type 0 where
  pub way : ℕ
  pub below : way < 8
  pub slides_in : SlidesIn kind way
  pub slide : SlidesAlong occupied a b (way_step way)

pub attack_parts : (occupied : List Bool) (side : Colour) (kind : Kind) (a b : Square) →
    Attacks occupied side kind a b → Leaps side kind a b ⊎ SlidesBy occupied kind a b
attack_parts occupied side Pawn a b attack = inl attack
attack_parts occupied side Knight a b attack = inl attack
attack_parts occupied side King a b attack = inl attack
attack_parts occupied side Bishop a b attack =
    let w = diagonal_way (SlidesAlong occupied a b) attack in
    inr (record { way = w.0; below = w.1; slides_in = w.2; slide = w.3 })
attack_parts occupied side Rook a b attack =
    let w = straight_way (SlidesAlong occupied a b) attack in
    inr (record { way = w.0; below = w.1; slides_in = w.2; slide = w.3 })
attack_parts occupied side Queen a b attack = elim (queen_parts (SlidesAlong occupied a b) attack) [
  | inl lines ↦
      let w = straight_way (SlidesAlong occupied a b) lines in
      inr (record { way = w.0; below = w.1; slides_in = tt; slide = w.3 })
  | inr lines ↦
      let w = diagonal_way (SlidesAlong occupied a b) lines in
      inr (record { way = w.0; below = w.1; slides_in = tt; slide = w.3 })
]

pub attack_leap : (occupied : List Bool) (side : Colour) (kind : Kind) (a b : Square) → Leaps side kind a b →
    Attacks occupied side kind a b
attack_leap occupied side Pawn a b leap = leap
attack_leap occupied side Knight a b leap = leap
attack_leap occupied side King a b leap = leap
attack_leap occupied side Bishop a b leap = absurd leap
attack_leap occupied side Rook a b leap = absurd leap
attack_leap occupied side Queen a b leap = absurd leap

pub attack_slide : (occupied : List Bool) (side : Colour) (kind : Kind) (a b : Square) (way : ℕ) → way < 8 →
    SlidesIn kind way → SlidesAlong occupied a b (way_step way) → Attacks occupied side kind a b
attack_slide occupied side Pawn a b way below slides slide = absurd slides
attack_slide occupied side Knight a b way below slides slide = absurd slides
attack_slide occupied side King a b way below slides slide = absurd slides
attack_slide occupied side Bishop a b way below slides slide =
    way_diagonal (SlidesAlong occupied a b) way below slides slide
attack_slide occupied side Rook a b way below slides slide =
    way_straight (SlidesAlong occupied a b) way below slides slide
attack_slide occupied side Queen a b way below slides slide = elim (odd_or_even way) [
  | inl even ↦ straight_of_queen (SlidesAlong occupied a b)
      (way_straight (SlidesAlong occupied a b) way below even slide)
  | inr odd ↦ inr (inr (inr (inr (way_diagonal (SlidesAlong occupied a b) way below odd slide))))
]

-- a kind leaps or slides
no_leap : (side : Colour) (kind : Kind) (a b : Square) (way : ℕ) → SlidesIn kind way → ¬ Leaps side kind a b
no_leap side Pawn a b way slides leap = absurd slides
no_leap side Knight a b way slides leap = absurd slides
no_leap side King a b way slides leap = absurd slides
no_leap side Bishop a b way slides leap = leap
no_leap side Rook a b way slides leap = leap
no_leap side Queen a b way slides leap = leap

same_facing : (kind : Kind) (side : Colour) (way : ℕ) → SlidesIn kind way → facing kind side ≡ side
same_facing Pawn side way slides = absurd slides
same_facing Knight side way slides = refl
same_facing King side way slides = refl
same_facing Bishop side way slides = refl
same_facing Rook side way slides = refl
same_facing Queen side way slides = refl

-- the attack of a man on a, as b sees it: a leap, or a slide from b
pub attack_seen : (occupied : List Bool) (side : Colour) (kind : Kind) (a b : Square) → IsOnBoard b →
    Attacks occupied side kind a b → Leaps side kind a b ⊎ SlidesBy occupied kind b a
attack_seen occupied side kind a b on attack = elim (attack_parts occupied side kind a b attack) [
  | inl leap ↦ inl leap
  | inr by ↦ elim (attack_parts occupied (facing kind side) kind b a (Attacks-back occupied side kind a b on attack)) [
    | inl leap ↦ absurd (no_leap (facing kind side) kind b a by.way by.slides_in leap)
    | inr back ↦ inr back
  ]
]

pub seen_attack : (occupied : List Bool) (side : Colour) (kind : Kind) (a b : Square) (way : ℕ) → IsOnBoard a →
    way < 8 → SlidesIn kind way → SlidesAlong occupied b a (way_step way) → Attacks occupied side kind a b
seen_attack occupied side kind a b way on below slides slide =
    let Side' : Colour → Type 0 = λ colour. Attacks occupied colour kind a b in
    subst Side' (same_facing kind side way slides)
    (Attacks-back occupied side kind b a on (attack_slide occupied side kind b a way below slides slide))
