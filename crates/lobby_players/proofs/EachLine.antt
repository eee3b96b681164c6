-- Lines, one after another.
use Rattle.std.proofs.Common.{ℕ, suc, ◌≡◌, Bool, true, false, not, cond, List, [], ◌∷◌, ◌++◌, map, refl, sym, ap, ◌∙◌, arith, None, inl, inr, subst, append-nil}
use Rattle.std.specs.Str.{str_to_ascii_lowercase}
use Rattle.std.specs.List.{All, AllZip, AllPairs, list_any}
use Rattle.std.proofs.lemmas.List.Elements.{All-from_get_or, All-push, filter-append}
use Rattle.std.proofs.lemmas.List.Kept.{AllPairs-cons}
use Rattle.std.proofs.lemmas.Slice.Eq.{bytes_eq-Decides}
use Rattle.std.proofs.lemmas.Bool.{false≢true, or_parts}
use Rattle.lobby_words.specs.declared.players.Player.{Player}
use Rattle.lobby_players.specs.File.{Entry, IsLineOf, AreTwo, AreLinesOf, spoken, is_silent, is_alike, has_sum, entry_of, entries_of}
use Rattle.lobby_players.specs.Faults.{TakesLine}

pub any_mapped : {A B : Type 0} (f : A → B) (p : B → Bool) (xs : List A) → list_any (λ x. p (f x)) xs ≡ list_any p (map f xs)
any_mapped f p [] = refl
any_mapped f p (x ∷ xs) = rw (any_mapped f p xs) refl

-- what a test over players says of their entries
pub any_of : (p : Entry → Bool) (b is : Bool) (slice items : List Player) → b ≡ list_any (λ x. p (entry_of x)) slice →
    slice ≡ items → b ≡ is → list_any p (entries_of items) ≡ is
any_of p b is slice items told same answer =
    sym (any_mapped entry_of p items)
    ∙ (ap (λ (ps : List Player). list_any (λ x. p (entry_of x)) ps) (sym same) ∙ (sym told ∙ answer))

pub zip_push : {A B : Type 0} (R : A → B → Type 0) (xs : List A) (ys : List B) (x : A) (y : B) → AllZip R xs ys → R x y →
    AllZip R (xs ++ x ∷ []) (ys ++ y ∷ [])
zip_push R [] [] x y h r = (r, tt)
zip_push R [] (b ∷ bs) x y h r = absurd h
zip_push R (a ∷ as') [] x y h r = absurd h
zip_push R (a ∷ as') (b ∷ bs) x y h r = (h.0, zip_push R as' bs x y h.1 r)

pub pairs_head : {A : Type 0} (R : A → A → Type 0) (x : A) (xs : List A) → AllPairs R (x ∷ xs) → All (R x) xs
pairs_head R x xs pairs = All-from_get_or (R x) xs x (λ i below. pairs 0 (suc i) x (omega arith) (omega arith))

pub pairs_tail : {A : Type 0} (R : A → A → Type 0) (x : A) (xs : List A) → AllPairs R (x ∷ xs) → AllPairs R xs
pairs_tail R x xs pairs = λ i j d less below. pairs (suc i) (suc j) d (omega arith) (omega arith)

-- each before stands so to this one
abbrev pub AllByStep : {A : Type 0} → (A → A → Type 0) → List A → A → Type 0
AllByStep R [] y = Unit {0}
AllByStep R (x ∷ xs) y = R x y × AllByStep R xs y

pub pairs_push : {A : Type 0} (R : A → A → Type 0) (xs : List A) (y : A) → AllPairs R xs → AllByStep R xs y → AllPairs R (xs ++ y ∷ [])
pairs_push R [] y pairs all = λ i j d less below. absurd (omega arith)
pairs_push R (x ∷ xs) y pairs all =
    AllPairs-cons R x (xs ++ y ∷ []) (All-push (R x) xs y (pairs_head R x xs pairs) all.0) (pairs_push R xs y (pairs_tail R x xs pairs) all.1)

pub two_if : (one e : Entry) → is_alike e.name one ≡ false → has_sum e.sum one ≡ false → AreTwo one e
two_if one e named shown = record {
  names = λ same. false≢true (sym named ∙ (bytes_eq-Decides (str_to_ascii_lowercase one.name) (str_to_ascii_lowercase e.name)).1 same);
  sums = λ same. false≢true (sym shown ∙ (bytes_eq-Decides one.sum e.sum).1 same);
}

pub two_each : (es : List Entry) (e : Entry) → list_any (is_alike e.name) es ≡ false → list_any (has_sum e.sum) es ≡ false →
    AllByStep AreTwo es e
two_each [] e named shown = tt
two_each (one ∷ es) e named shown =
    (two_if one e (or_parts _ _ named).0 (or_parts _ _ shown).0, two_each es e (or_parts _ _ named).1 (or_parts _ _ shown).1)

one_spoken : (before : List (List ℕ)) (line : List ℕ) → is_silent line ≡ false → spoken (before ++ line ∷ []) ≡ spoken before ++ line ∷ []
one_spoken before line speaks =
    filter-append (λ (l : List ℕ). not (is_silent l)) before (line ∷ []) ∙
    ap (λ (b : Bool). spoken before ++ cond (not b) (line ∷ []) []) speaks

one_silent : (before : List (List ℕ)) (line : List ℕ) → is_silent line ≡ true → spoken (before ++ line ∷ []) ≡ spoken before
one_silent before line silent =
    filter-append (λ (l : List ℕ). not (is_silent l)) before (line ∷ []) ∙
    (ap (λ (b : Bool). spoken before ++ cond (not b) (line ∷ []) []) silent ∙ append-nil (spoken before))

-- one player more
pub one_more : (before : List (List ℕ)) (line : List ℕ) (es : List Entry) (e : Entry) → AreLinesOf before es → is_silent line ≡ false →
    IsLineOf line e → list_any (is_alike e.name) es ≡ false → list_any (has_sum e.sum) es ≡ false →
    AreLinesOf (before ++ line ∷ []) (es ++ e ∷ [])
one_more before line es e are speaks told named shown = record {
  told = subst (λ (ls : List (List ℕ)). AllZip IsLineOf ls (es ++ e ∷ [])) (sym (one_spoken before line speaks))
      (zip_push IsLineOf (spoken before) es line e are.told told);
  apart = pairs_push AreTwo es e are.apart (two_each es e named shown);
}

-- one line more that is taken
pub line_more : (before : List (List ℕ)) (line : List ℕ) (es after : List Entry) → AreLinesOf before es →
    TakesLine es line after None → AreLinesOf (before ++ line ∷ []) after
line_more before line es after are takes =
    elim takes [
      | inl silent ↦
          subst (λ (xs : List Entry). AreLinesOf (before ++ line ∷ []) xs) (sym silent.1) (record {
            told = subst (λ (ls : List (List ℕ)). AllZip IsLineOf ls es) (sym (one_silent before line silent.0)) are.told;
            apart = are.apart;
          })
      | inr put ↦
          subst (λ (xs : List Entry). AreLinesOf (before ++ line ∷ []) xs) (sym put.put)
          (one_more before line es put.entry are put.spoken put.told put.named put.shown)
    ]
