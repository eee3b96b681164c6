-- Attacks turned round: a man of the kind on the square attacked would attack back.
use Rattle.std.proofs.Common.{ℕ, ◌≡◌, ◌+◌, ◌-◌, ◌*◌, ◌≤◌, Bool, List, [], ◌∷◌, map, ap, ◌∙◌, inl, inr, arith}
use Rattle.chess_bits.specs.declared.men.Colour.{Colour}
use Rattle.chess_bits.specs.declared.men.Colour.TheVariants.{White, Black}
use Rattle.chess_bits.specs.declared.men.Kind.{Kind}
use Rattle.chess_bits.specs.declared.men.Kind.TheVariants.{Pawn, Knight, Bishop, Rook, Queen, King}
use Rattle.chess_bits.specs.declared.steps.Step.{Step}
use Rattle.chess_bits.specs.Square.{Square, IsOnBoard}
use Rattle.chess_bits.specs.Man.{other}
use Rattle.chess_bits.specs.Table.{has}
use Rattle.chess_bits.specs.Attack.{along, north, east, south, west, north_east, south_east, south_west, north_west, straight, diagonal, adjoining, knight_steps, pawn_attacks, SomeOf, SlidesAlong, Attacks}
use Rattle.chess_bits.proofs.AlongLemmas.{product-split}
use Rattle.chess_bits.proofs.TableLemmas.{same_square}

-- the step back
abbrev pub reverse_step : Step → Step
reverse_step step = record { right = step.left; left = step.right; up = step.down; down = step.up }

coordinate_back : (n a b more less : ℕ) → 1 ≤ b → b ≡ a + n * more - n * less → a ≡ b + n * less - n * more
coordinate_back n a b more less on e = omega arith

-- from a square of the board the same number of steps lead back
pub along-back : (n : ℕ) (step : Step) (a b : Square) → IsOnBoard b → b ≡ along n step a →
    a ≡ along n (reverse_step step) b
along-back n step a b on e =
    same_square a (along n (reverse_step step) b)
    (coordinate_back n a.file b.file step.right step.left on.file_from (ap (λ (s : Square). s.file) e))
    (coordinate_back n a.rank b.rank step.up step.down on.rank_from (ap (λ (s : Square). s.rank) e))

coordinate_part : (n k a b more less : ℕ) → k ≤ n → 1 ≤ b → b ≡ a + n * more - n * less →
    b + k * less - k * more ≡ a + (n - k) * more - (n - k) * less
coordinate_part n k a b more less le on e =
    let all_more : n * more ≡ k * more + (n - k) * more = product-split n k more le in
    let all_less : n * less ≡ k * less + (n - k) * less = product-split n k less le in
    omega arith

-- some of the steps back are the others on the way there
along-part : (n k : ℕ) (step : Step) (a b : Square) → k ≤ n → IsOnBoard b → b ≡ along n step a →
    along k (reverse_step step) b ≡ along (n - k) step a
along-part n k step a b le on e =
    same_square (along k (reverse_step step) b) (along (n - k) step a)
    (coordinate_part n k a.file b.file step.right step.left le on.file_from (ap (λ (s : Square). s.file) e))
    (coordinate_part n k a.rank b.rank step.up step.down le on.rank_from (ap (λ (s : Square). s.rank) e))

pub SlidesAlong-back : (occupied : List Bool) (a b : Square) (step : Step) → IsOnBoard b →
    SlidesAlong occupied a b step → SlidesAlong occupied b a (reverse_step step)
SlidesAlong-back occupied a b step on slide = record {
  distance = slide.distance;
  positive = slide.positive;
  there = along-back slide.distance step a b on slide.there;
  between_empty = λ k from below.
      ap (has occupied) (along-part slide.distance k step a b (omega arith) on slide.there)
      ∙ slide.between_empty (slide.distance - k) (omega arith) (omega arith);
}

reversed : (P Q : Step → Type 0) → ((step : Step) → P step → Q (reverse_step step)) → (steps : List Step) →
    SomeOf P steps → SomeOf Q (map reverse_step steps)
reversed P Q back [] none = none
reversed P Q back (step ∷ steps) (inl here) = inl (back step here)
reversed P Q back (step ∷ steps) (inr later) = inr (reversed P Q back steps later)

-- the lists of steps hold the steps back
knight_back : (P : Step → Type 0) → SomeOf P (map reverse_step knight_steps) → SomeOf P knight_steps
knight_back P (inl p) = inr (inr (inr (inr (inl p))))
knight_back P (inr (inl p)) = inr (inr (inr (inr (inr (inl p)))))
knight_back P (inr (inr (inl p))) = inr (inr (inr (inr (inr (inr (inl p))))))
knight_back P (inr (inr (inr (inl p)))) = inr (inr (inr (inr (inr (inr (inr (inl p)))))))
knight_back P (inr (inr (inr (inr (inl p))))) = inl p
knight_back P (inr (inr (inr (inr (inr (inl p)))))) = inr (inl p)
knight_back P (inr (inr (inr (inr (inr (inr (inl p))))))) = inr (inr (inl p))
knight_back P (inr (inr (inr (inr (inr (inr (inr (inl p)))))))) = inr (inr (inr (inl p)))
knight_back P (inr (inr (inr (inr (inr (inr (inr (inr none)))))))) = absurd none

-- four steps of which each second one goes back
four_back : (P : Step → Type 0) (a b c d : Step) → SomeOf P (c ∷ d ∷ a ∷ b ∷ []) → SomeOf P (a ∷ b ∷ c ∷ d ∷ [])
four_back P a b c d (inl p) = inr (inr (inl p))
four_back P a b c d (inr (inl p)) = inr (inr (inr (inl p)))
four_back P a b c d (inr (inr (inl p))) = inl p
four_back P a b c d (inr (inr (inr (inl p)))) = inr (inl p)
four_back P a b c d (inr (inr (inr (inr none)))) = absurd none

straight_back : (P : Step → Type 0) → SomeOf P (map reverse_step straight) → SomeOf P straight
straight_back P back = four_back P north east south west back

diagonal_back : (P : Step → Type 0) → SomeOf P (map reverse_step diagonal) → SomeOf P diagonal
diagonal_back P back = four_back P north_east south_east south_west north_west back

adjoining_back : (P : Step → Type 0) → SomeOf P (map reverse_step adjoining) → SomeOf P adjoining
adjoining_back P (inl p) = inr (inr (inl p))
adjoining_back P (inr (inl p)) = inr (inr (inr (inl p)))
adjoining_back P (inr (inr (inl p))) = inl p
adjoining_back P (inr (inr (inr (inl p)))) = inr (inl p)
adjoining_back P (inr (inr (inr (inr (inl p))))) = inr (inr (inr (inr (inr (inr (inl p))))))
adjoining_back P (inr (inr (inr (inr (inr (inl p)))))) = inr (inr (inr (inr (inr (inr (inr (inl p)))))))
adjoining_back P (inr (inr (inr (inr (inr (inr (inl p))))))) = inr (inr (inr (inr (inl p))))
adjoining_back P (inr (inr (inr (inr (inr (inr (inr (inl p)))))))) = inr (inr (inr (inr (inr (inl p)))))
adjoining_back P (inr (inr (inr (inr (inr (inr (inr (inr none)))))))) = absurd none

pawn_back : (side : Colour) (P : Step → Type 0) → SomeOf P (map reverse_step (pawn_attacks side)) →
    SomeOf P (pawn_attacks (other side))
pawn_back White P (inl p) = inr (inl p)
pawn_back White P (inr (inl p)) = inl p
pawn_back White P (inr (inr none)) = absurd none
pawn_back Black P (inl p) = inr (inl p)
pawn_back Black P (inr (inl p)) = inl p
pawn_back Black P (inr (inr none)) = absurd none

-- the colour of a man that attacks back: a pawn of the other side
abbrev pub facing : Kind → Colour → Colour
facing Pawn side = other side
facing Knight side = side
facing Bishop side = side
facing Rook side = side
facing Queen side = side
facing King side = side

pub Attacks-back : (occupied : List Bool) (side : Colour) (kind : Kind) (a b : Square) → IsOnBoard b →
    Attacks occupied side kind a b → Attacks occupied (facing kind side) kind b a
Attacks-back occupied side Pawn a b on r =
    pawn_back side (λ step. a ≡ along 1 step b)
    (reversed (λ step. b ≡ along 1 step a) (λ step. a ≡ along 1 step b) (λ step e. along-back 1 step a b on e)
    (pawn_attacks side) r)
Attacks-back occupied side Knight a b on r =
    knight_back (λ step. a ≡ along 1 step b)
    (reversed (λ step. b ≡ along 1 step a) (λ step. a ≡ along 1 step b) (λ step e. along-back 1 step a b on e)
    knight_steps r)
Attacks-back occupied side King a b on r =
    adjoining_back (λ step. a ≡ along 1 step b)
    (reversed (λ step. b ≡ along 1 step a) (λ step. a ≡ along 1 step b) (λ step e. along-back 1 step a b on e)
    adjoining r)
Attacks-back occupied side Bishop a b on s =
    diagonal_back (SlidesAlong occupied b a)
    (reversed (SlidesAlong occupied a b) (SlidesAlong occupied b a)
    (λ step slide. SlidesAlong-back occupied a b step on slide) diagonal s)
Attacks-back occupied side Rook a b on s =
    straight_back (SlidesAlong occupied b a)
    (reversed (SlidesAlong occupied a b) (SlidesAlong occupied b a)
    (λ step slide. SlidesAlong-back occupied a b step on slide) straight s)
Attacks-back occupied side Queen a b on s =
    adjoining_back (SlidesAlong occupied b a)
    (reversed (SlidesAlong occupied a b) (SlidesAlong occupied b a)
    (λ step slide. SlidesAlong-back occupied a b step on slide) adjoining s)
