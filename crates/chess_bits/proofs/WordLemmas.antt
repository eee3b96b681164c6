use Rattle.std.proofs.Common.{ℕ, zero, suc, ◌≡◌, ◌-◌, ◌*◌, ◌/◌, ◌%◌, ◌^◌, ◌<◌, Bool, true, false, eqb, ◌||◌, ◌&&◌, not, List, [], ◌∷◌, length, get_or, set, replicate, refl, ap, sym, ◌∙◌, inl, inr, arith, bit_and, bit_or, min, max}
use Rattle.std.proofs.lemmas.Bool.{cases_eq}
use Rattle.std.proofs.lemmas.Bool.Decides.{nat_tests}
use Rattle.std.proofs.lemmas.List.{ext_get_or, length-set, get_or-set_same, get_or-set_other, length-replicate, get_or-replicate}
use Rattle.std.proofs.lemmas.Nat.Bits.{bit_at_lowest, bit_at-suc, bit_at_and, bit_at_or, bit_at-lt, bit_at-zero, bit_at_set_same, bit_at_set_other, bit_at_clear_same, bit_at_clear_other, bit_at_not}
use Rattle.std.specs.Int.{bit_at, w64, bit_not}
use Rattle.chess_bits.specs.Word.{bools_of}
use Rattle.chess_bits.specs.Table.{each, union, meet, without, empty}

pub length-bools_of : (n w : ℕ) → length (bools_of n w) ≡ n
unfolding bools_of
length-bools_of zero w = refl
length-bools_of (suc n) w = ap suc (length-bools_of n (w / 2))

-- bit i of a number, as a test
abbrev pub bit : ℕ → ℕ → Bool
bit w i = eqb (bit_at w i) 1

pub get_or-bools_of : (n w i : ℕ) → i < n → get_or (bools_of n w) i false ≡ bit w i
unfolding bools_of
get_or-bools_of zero w i h = absurd (omega arith)
get_or-bools_of (suc n) w zero h = ap (λ (x : ℕ). eqb x 1) (sym (bit_at_lowest w))
get_or-bools_of (suc n) w (suc i) h =
    let below : i < n = omega arith in
    get_or-bools_of n (w / 2) i below ∙ ap (λ (x : ℕ). eqb x 1) (sym (bit_at-suc w i))

-- a list of n tests is that of the bits of a number where each is
pub same_bools : (n w : ℕ) (bs : List Bool) → length bs ≡ n → ((i : ℕ) → i < n → bit w i ≡ get_or bs i false) →
    bools_of n w ≡ bs
same_bools n w bs len same =
    ext_get_or false (bools_of n w) bs (length-bools_of n w ∙ sym len)
    (λ i h. let below : i < n = omega (arith, length-bools_of n w) in get_or-bools_of n w i below ∙ same i below)

pub length-each : (f : Bool → Bool → Bool) (xs ys : List Bool) → length xs ≡ length ys →
    length (each f xs ys) ≡ length xs
length-each f [] ys e = refl
length-each f (x ∷ xs) [] e = sym e
length-each f (x ∷ xs) (y ∷ ys) e = let tails : length xs ≡ length ys = omega arith in
    ap suc (length-each f xs ys tails)

pub get_or-each : (f : Bool → Bool → Bool) (xs ys : List Bool) (i : ℕ) → i < length xs → i < length ys →
    get_or (each f xs ys) i false ≡ f (get_or xs i false) (get_or ys i false)
get_or-each f [] ys i h k = absurd (omega arith)
get_or-each f (x ∷ xs) [] i h k = absurd (omega arith)
get_or-each f (x ∷ xs) (y ∷ ys) zero h k = refl
get_or-each f (x ∷ xs) (y ∷ ys) (suc i) h k = get_or-each f xs ys i (omega arith) (omega arith)

either : (a b : ℕ) → a < 2 → b < 2 → eqb (max a b) 1 ≡ (eqb a 1 || eqb b 1)
either zero b h k = grind (arith, nat_tests)
either (suc zero) zero h k = refl
either (suc zero) (suc zero) h k = refl
either (suc zero) (suc (suc b)) h k = absurd (omega arith)
either (suc (suc a)) b h k = absurd (omega arith)

both : (a b : ℕ) → a < 2 → b < 2 → eqb (min a b) 1 ≡ (eqb a 1 && eqb b 1)
both zero b h k = grind (arith, nat_tests)
both (suc zero) zero h k = refl
both (suc zero) (suc zero) h k = refl
both (suc zero) (suc (suc b)) h k = absurd (omega arith)
both (suc (suc a)) b h k = absurd (omega arith)

without_other : (a b : ℕ) → a < 2 → b < 2 → eqb (min a (1 - b)) 1 ≡ (eqb a 1 && not (eqb b 1))
without_other zero b h k = grind (arith, nat_tests)
without_other (suc zero) zero h k = refl
without_other (suc zero) (suc zero) h k = refl
without_other (suc zero) (suc (suc b)) h k = absurd (omega arith)
without_other (suc (suc a)) b h k = absurd (omega arith)

pub bools_of-or : (n a b : ℕ) → bools_of n (bit_or a b) ≡ union (bools_of n a) (bools_of n b)
unfolding union
bools_of-or n a b =
    same_bools n (bit_or a b) _ (length-each (λ x y. x || y) _ _ (length-bools_of n a
    ∙ sym (length-bools_of n b)) ∙ length-bools_of n a)
    (λ i h.
    ap (λ (x : ℕ). eqb x 1) (bit_at_or a b i) ∙ either (bit_at a i) (bit_at b i) (bit_at-lt a i) (bit_at-lt b i)
    ∙ sym (get_or-each (λ x y. x || y) (bools_of n a) (bools_of n b) i (omega (arith, length-bools_of n a))
    (omega (arith, length-bools_of n b))
    ∙ ap (λ (x : Bool). x || get_or (bools_of n b) i false) (get_or-bools_of n a i h)
    ∙ ap (λ (x : Bool). bit a i || x) (get_or-bools_of n b i h)))

pub bools_of-and : (n a b : ℕ) → bools_of n (bit_and a b) ≡ meet (bools_of n a) (bools_of n b)
unfolding meet
bools_of-and n a b =
    same_bools n (bit_and a b) _ (length-each (λ x y. x && y) _ _ (length-bools_of n a
    ∙ sym (length-bools_of n b)) ∙ length-bools_of n a)
    (λ i h.
    ap (λ (x : ℕ). eqb x 1) (bit_at_and a b i) ∙ both (bit_at a i) (bit_at b i) (bit_at-lt a i) (bit_at-lt b i)
    ∙ sym (get_or-each (λ x y. x && y) (bools_of n a) (bools_of n b) i (omega (arith, length-bools_of n a))
    (omega (arith, length-bools_of n b))
    ∙ ap (λ (x : Bool). x && get_or (bools_of n b) i false) (get_or-bools_of n a i h)
    ∙ ap (λ (x : Bool). bit a i && x) (get_or-bools_of n b i h)))

pub bools_of-without : (a b : ℕ) → b < 2 ^ 64 →
    bools_of 64 (bit_and a (bit_not w64 b)) ≡ without (bools_of 64 a) (bools_of 64 b)
unfolding without
bools_of-without a b fits =
    same_bools 64 (bit_and a (bit_not w64 b)) _ (length-each (λ x y. x && not y) _ _ (length-bools_of 64 a
    ∙ sym (length-bools_of 64 b)) ∙ length-bools_of 64 a)
    (λ i h.
    ap (λ (x : ℕ). eqb x 1) (bit_at_and a (bit_not w64 b) i
    ∙ ap (λ (x : ℕ). min (bit_at a i) x) (bit_at_not w64 b i fits h))
    ∙ without_other (bit_at a i) (bit_at b i) (bit_at-lt a i) (bit_at-lt b i)
    ∙ sym (get_or-each (λ x y. x && not y) (bools_of 64 a) (bools_of 64 b) i (omega (arith, length-bools_of 64 a))
    (omega (arith, length-bools_of 64 b))
    ∙ ap (λ (x : Bool). x && not (get_or (bools_of 64 b) i false)) (get_or-bools_of 64 a i h)
    ∙ ap (λ (x : Bool). bit a i && not x) (get_or-bools_of 64 b i h)))

pub bools_of-zero : bools_of 64 0 ≡ empty
unfolding empty
bools_of-zero =
    same_bools 64 0 (replicate 64 false) (length-replicate 64 false)
    (λ i h. ap (λ (x : ℕ). eqb x 1) (bit_at-zero i) ∙ sym (get_or-replicate 64 i false false h))

-- a bit set or cleared
pub bools_of-insert : (w k : ℕ) → k < 64 → bools_of 64 (bit_or w (1 * 2 ^ k % 2 ^ 64)) ≡ set (bools_of 64 w) k true
bools_of-insert w k h =
    same_bools 64 _ (set (bools_of 64 w) k true) (length-set (bools_of 64 w) k true ∙ length-bools_of 64 w)
    (λ i below. elim (cases_eq i k) [
      | inl e ↦ rw e (ap (λ (x : ℕ). eqb x 1) (bit_at_set_same w64 w k h)
          ∙ sym (get_or-set_same (bools_of 64 w) k true false (omega (arith, length-bools_of 64 w))))
      | inr ne ↦ ap (λ (x : ℕ). eqb x 1) (bit_at_set_other w64 w k h i ne)
          ∙ sym (get_or-set_other (bools_of 64 w) k i true false ne ∙ get_or-bools_of 64 w i below)
    ])

pub bools_of-remove : (w k : ℕ) → k < 64 →
    bools_of 64 (bit_and w (bit_not w64 (1 * 2 ^ k % 2 ^ 64))) ≡ set (bools_of 64 w) k false
bools_of-remove w k h =
    same_bools 64 _ (set (bools_of 64 w) k false) (length-set (bools_of 64 w) k false ∙ length-bools_of 64 w)
    (λ i below. elim (cases_eq i k) [
      | inl e ↦ rw e (ap (λ (x : ℕ). eqb x 1) (bit_at_clear_same w64 w k h)
          ∙ sym (get_or-set_same (bools_of 64 w) k false false (omega (arith, length-bools_of 64 w))))
      | inr ne ↦ ap (λ (x : ℕ). eqb x 1) (bit_at_clear_other w64 w k h i below ne)
          ∙ sym (get_or-set_other (bools_of 64 w) k i false false ne ∙ get_or-bools_of 64 w i below)
    ])
