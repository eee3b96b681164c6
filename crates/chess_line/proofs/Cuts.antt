-- A text that is cut at a byte is cut in one way, and a number's text has digits alone.
use Rattle.std.proofs.Common.{◌≡◌, ◌≢◌, ℕ, zero, suc, ◌<◌, ◌==◌, Bool, true, not, ◌&&◌, List, [], ◌∷◌, ◌++◌, length, get_or, decimal, Option, Some, None, refl, ap, ◌∙◌, sym, arith}
use Rattle.std.proofs.lemmas.Bool.{and_parts}
use Rattle.std.proofs.lemmas.Bool.Decides.{nat_tests}
use Rattle.std.proofs.lemmas.Fmt.{digits_decimal, decimal_injective}
use Rattle.std.proofs.lemmas.Str.Parse.{digit_at}
use Rattle.text_parts.proofs.Digits.{own}
use Rattle.chess_line.specs.Fields.{IsNumber}
use Rattle.chess_line.specs.Cut.{Unspaced, joined}

-- the byte does not stand in the text
abbrev pub Without : ℕ → List ℕ → Type 0
Without c text = (i : ℕ) → i < length text → get_or text i 0 ≢ c

without_rest : (c d : ℕ) (text : List ℕ) → Without c (d ∷ text) → Without c text
without_rest c d text h = λ i below. h (suc i) (omega arith)

pub record SameParts (a b x y : List ℕ) : Type 0 where
  pub front : a ≡ b
  pub rest : x ≡ y

pub same_parts : (c : ℕ) (a b x y : List ℕ) → Without c a → Without c b → a ++ (c ∷ x) ≡ b ++ (c ∷ y) → SameParts a b x y
same_parts c [] [] x y ha hb e = record { front = refl; rest = cc }
same_parts c [] (d ∷ b) x y ha hb e = let same : d ≡ c = cc in absurd (hb 0 (omega arith) same)
same_parts c (d ∷ a) [] x y ha hb e = let same : d ≡ c = cc in absurd (ha 0 (omega arith) same)
same_parts c (p ∷ a) (q ∷ b) x y ha hb e =
    let same : p ≡ q = cc in
    let rest : a ++ (c ∷ x) ≡ b ++ (c ∷ y) = cc in
    let parts = same_parts c a b x y (without_rest c p a ha) (without_rest c q b hb) rest in
    record { front = ap (λ h. h ∷ a) same ∙ ap (λ t. q ∷ t) parts.front; rest = parts.rest }

-- a text without the byte is not cut at it
pub no_parts : (c : ℕ) (a b y : List ℕ) → Without c a → a ≢ b ++ (c ∷ y)
no_parts c [] [] y ha e = cc
no_parts c [] (d ∷ b) y ha e = cc
no_parts c (d ∷ a) [] y ha e = let same : d ≡ c = cc in ha 0 (omega arith) same
no_parts c (p ∷ a) (q ∷ b) y ha e =
    let rest : a ≡ b ++ (c ∷ y) = cc in
    no_parts c a b y (without_rest c p a ha) rest

pub record SameCut (a b : List ℕ) (x y : Option (List ℕ)) : Type 0 where
  pub front : a ≡ b
  pub rest : x ≡ y

pub same_cut : (a b : List ℕ) (x y : Option (List ℕ)) → Unspaced a → Unspaced b → joined a x ≡ joined b y → SameCut a b x y
same_cut a b None None ha hb e = record { front = e; rest = refl }
same_cut a b None (Some y) ha hb e = absurd (no_parts 32 a b y ha e)
same_cut a b (Some x) None ha hb e = absurd (no_parts 32 b a x hb (sym e))
same_cut a b (Some x) (Some y) ha hb e =
    let parts = same_parts 32 a b x y ha hb e in
    record { front = parts.front; rest = ap Some parts.rest }

-- a test that a word has no such byte
abbrev pub clear : ℕ → List ℕ → Bool
clear c [] = true
clear c (d ∷ text) = not (d == c) && clear c text

other_byte : (c d : ℕ) → not (d == c) ≡ true → d ≢ c
other_byte c d e = grind (arith, nat_tests)

pub without_cons : (c d : ℕ) (text : List ℕ) → d ≢ c → Without c text → Without c (d ∷ text)
without_cons c d text h rest zero below = h
without_cons c d text h rest (suc i) below = rest i (omega arith)

pub without_append : (c : ℕ) (a b : List ℕ) → Without c a → Without c b → Without c (a ++ b)
without_append c [] b ha hb = hb
without_append c (d ∷ a) b ha hb =
    without_cons c d (a ++ b) (ha 0 (omega arith)) (without_append c a b (without_rest c d a ha) hb)

pub clear_without : (c : ℕ) (text : List ℕ) → clear c text ≡ true → Without c text
clear_without c [] e = λ i below. absurd (omega arith)
clear_without c (d ∷ text) e =
    let here = and_parts (not (d == c)) (clear c text) e in
    without_cons c d text (other_byte c d here.0) (clear_without c text here.1)

pub decimal_without : (c n : ℕ) → c < 48 → IsNumber n → Without c (decimal n)
decimal_without c n low small i below e =
    let digit = digit_at (decimal n) i (digits_decimal own n (omega arith)) below in
    omega (arith, digit)

pub decimal_without_colon : (n : ℕ) → IsNumber n → Without 58 (decimal n)
decimal_without_colon n small i below e =
    let digit = digit_at (decimal n) i (digits_decimal own n (omega arith)) below in
    omega (arith, digit)

pub same_number : (m n : ℕ) → IsNumber m → IsNumber n → decimal m ≡ decimal n → m ≡ n
same_number m n small low e = decimal_injective m n (omega arith) (omega arith) e

pub record SamePair {A B : Type 0} (a c : A) (b d : B) : Type 0 where
  pub first : a ≡ c
  pub second : b ≡ d

pub same_pair : {A B : Type 0} (a c : A) (b d : B) → ◌≡◌ {A = Option (A × B)} (Some (a, b)) (Some (c, d)) → SamePair a c b d
same_pair {A} {B} a c b d e =
    let p : ◌≡◌ {A = A × B} (a, b) (c, d) = cc in
    record { first = ap (λ x. x.0) p; second = ap (λ x. x.1) p }
