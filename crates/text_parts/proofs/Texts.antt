-- A text that is escaped comes back, and what stands behind it.
use Rattle.std.proofs.Common.{ℕ, ◌≡◌, ◌==◌, Bool, true, false, List, [], ◌∷◌, ◌++◌, refl, sym, ap, ◌∙◌}
use Rattle.std.proofs.lemmas.Bool.Decides.{Decides-eqb}
use Rattle.text_parts.specs.Strings.{escaped_byte, escaped, plain_byte, unescaped_from, behind_from}

abbrev Back : List ℕ → List ℕ → Type 0
Back text rest = unescaped_from false (escaped text ++ (34 ∷ rest)) ≡ text

-- a byte of each kind
feed_back : (b : ℕ) (text rest : List ℕ) → (b == 10) ≡ true → Back text rest → Back (b ∷ text) rest
feed_back b text rest e below = rw e (ap (λ xs. 10 ∷ xs) below ∙ ap (λ x. x ∷ text) (sym ((Decides-eqb b 10).0 e)))

quote_back : (b : ℕ) (text rest : List ℕ) → (b == 10) ≡ false → (b == 34) ≡ true → Back text rest → Back (b ∷ text) rest
quote_back b text rest e f below =
    let is = (Decides-eqb b 34).0 f in
    rw e (rw f (ap (λ xs. plain_byte b ∷ xs) below ∙ (ap (λ x. plain_byte x ∷ text) is ∙ ap (λ x. x ∷ text) (sym is))))

slash_back : (b : ℕ) (text rest : List ℕ) → (b == 10) ≡ false → (b == 34) ≡ false → (b == 92) ≡ true → Back text rest →
    Back (b ∷ text) rest
slash_back b text rest e f g below =
    let is = (Decides-eqb b 92).0 g in
    rw e (rw f (rw g (ap (λ xs. plain_byte b ∷ xs) below ∙ (ap (λ x. plain_byte x ∷ text) is ∙ ap (λ x. x ∷ text) (sym is)))))

other_byte : (b : ℕ) → (b == 10) ≡ false → (b == 34) ≡ false → (b == 92) ≡ false → escaped_byte b ≡ b ∷ []
other_byte b e f g = rw e (rw f (rw g refl))

other_step : (b : ℕ) (rest : List ℕ) → (b == 34) ≡ false → (b == 92) ≡ false →
    unescaped_from false (b ∷ rest) ≡ b ∷ unescaped_from false rest
other_step b rest f g = rw f (rw g refl)

other_back : (b : ℕ) (text rest : List ℕ) → (b == 10) ≡ false → (b == 34) ≡ false → (b == 92) ≡ false → Back text rest →
    Back (b ∷ text) rest
other_back b text rest e f g below =
    ap (λ xs. unescaped_from false ((xs ++ escaped text) ++ (34 ∷ rest))) (other_byte b e f g)
    ∙ (other_step b (escaped text ++ (34 ∷ rest)) f g ∙ ap (λ xs. b ∷ xs) below)

one_back : (b : ℕ) (text rest : List ℕ) (n q s : Bool) → (b == 10) ≡ n → (b == 34) ≡ q → (b == 92) ≡ s → Back text rest →
    Back (b ∷ text) rest
one_back b text rest true q s e f g below = feed_back b text rest e below
one_back b text rest false true s e f g below = quote_back b text rest e f below
one_back b text rest false false true e f g below = slash_back b text rest e f g below
one_back b text rest false false false e f g below = other_back b text rest e f g below

pub back : (text rest : List ℕ) → Back text rest
back [] rest = refl
back (b ∷ text) rest = one_back b text rest (b == 10) (b == 34) (b == 92) refl refl refl (back text rest)

abbrev Behind : List ℕ → List ℕ → Type 0
Behind text rest = behind_from false (escaped text ++ (34 ∷ rest)) ≡ rest

behind_step : (b : ℕ) (rest : List ℕ) → (b == 34) ≡ false → (b == 92) ≡ false →
    behind_from false (b ∷ rest) ≡ behind_from false rest
behind_step b rest f g = rw f (rw g refl)

one_behind : (b : ℕ) (text rest : List ℕ) (n q s : Bool) → (b == 10) ≡ n → (b == 34) ≡ q → (b == 92) ≡ s → Behind text rest →
    Behind (b ∷ text) rest
one_behind b text rest true q s e f g below = rw e below
one_behind b text rest false true s e f g below = rw e (rw f below)
one_behind b text rest false false true e f g below = rw e (rw f (rw g below))
one_behind b text rest false false false e f g below =
    ap (λ xs. behind_from false ((xs ++ escaped text) ++ (34 ∷ rest))) (other_byte b e f g)
    ∙ (behind_step b (escaped text ++ (34 ∷ rest)) f g ∙ below)

pub behind : (text rest : List ℕ) → Behind text rest
behind [] rest = refl
behind (b ∷ text) rest =
    one_behind b text rest (b == 10) (b == 34) (b == 92) refl refl refl (behind text rest)
