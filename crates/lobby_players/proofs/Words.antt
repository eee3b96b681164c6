-- Words with one space between each two.
use Rattle.std.proofs.Common.{ℕ, suc, ◌≡◌, ◌≢◌, List, [], ◌∷◌, ◌++◌, refl, sym, ap, ◌∙◌, arith, subst, Option, Some, None}
use Rattle.std.specs.Prelude.{IfNone}
use Rattle.std.specs.Borrow.{Bor}
use Rattle.std.proofs.lemmas.Str.Pattern.{split_parts, IsSplitOnceResult}
use Rattle.lobby_players.specs.File.{IsWord, HasFields}

abbrev pub head_of : List ℕ → ℕ
head_of [] = 0
head_of (x ∷ xs) = x

abbrev pub tail_of : List ℕ → List ℕ
tail_of [] = []
tail_of (x ∷ xs) = xs

word_tail : (x : ℕ) (xs : List ℕ) → IsWord (x ∷ xs) → IsWord xs
word_tail x xs word = λ i below. word (suc i) (omega arith)

no_space : (x : ℕ) (xs : List ℕ) → IsWord (x ∷ xs) → x ≢ 32
no_space x xs word = word 0 (omega arith)

pub record SameParts (a b x y : List ℕ) : Type 0 where
  pub front : a ≡ b
  pub rest : x ≡ y

-- a text has one first word
pub first_word : (a b x y : List ℕ) → IsWord a → IsWord b → a ++ (32 ∷ x) ≡ b ++ (32 ∷ y) → SameParts a b x y
first_word [] [] x y wa wb e = record { front = refl; rest = ap tail_of e }
first_word [] (b ∷ bs) x y wa wb e = absurd (no_space b bs wb (sym (ap head_of e)))
first_word (a ∷ as') [] x y wa wb e = absurd (no_space a as' wa (ap head_of e))
first_word (a ∷ as') (b ∷ bs) x y wa wb e =
    let rest = first_word as' bs x y (word_tail a as' wa) (word_tail b bs wb) (ap tail_of e) in
    record { front = ap (λ (n : ℕ). n ∷ as') (ap head_of e) ∙ ap (λ (t : List ℕ). b ∷ t) rest.front; rest = rest.rest }

-- no word has a space
pub not_word : (a x : List ℕ) → IsWord (a ++ (32 ∷ x)) → ⊥
not_word [] x word = word 0 (omega arith) refl
not_word (a ∷ as') x word = not_word as' x (word_tail a (as' ++ (32 ∷ x)) word)

pub for_none : {A : Type 0} (r : Option A) (P : Type 0) → P → IfNone r P
for_none None P p = p
for_none (Some x) P p = tt

pub record IsCut (text front rest : List ℕ) : Type 0 where
  pub word : IsWord front
  pub joined : text ≡ front ++ (32 ∷ rest)

-- what `split_once` at a space tells
pub cut_some : (text : List ℕ) (r : Option (Bor (List ℕ) × Bor (List ℕ))) (a b : Bor (List ℕ)) → IsSplitOnceResult 32 text r →
    r ≡ Some (a, b) → IsCut text a.now b.now
cut_some text r a b cases is =
    let parts = rw is at (split_parts 32 text r cases (omega arith)) in
    record { word = parts.1; joined = parts.0 }

pub cut_none : (text : List ℕ) (r : Option (Bor (List ℕ) × Bor (List ℕ))) → IsSplitOnceResult 32 text r → r ≡ None → IsWord text
cut_none text r cases is = rw is at (split_parts 32 text r cases (omega arith))

-- Three cuts give the fields, and where one fails there are none.
pub fields_some : (line name rest role more digits full_name : List ℕ) → IsCut line name rest → IsCut rest role more →
    IsCut more digits full_name → HasFields line name role digits full_name
fields_some line name rest role more digits full_name one two three = record {
  name_word = one.word;
  role_word = two.word;
  sum_word = three.word;
  joined = one.joined ∙ ap (λ (t : List ℕ). name ++ (32 ∷ t)) (two.joined ∙ ap (λ (t : List ℕ). role ++ (32 ∷ t)) three.joined);
}

pub no_name : (line : List ℕ) → IsWord line → (a b c d : List ℕ) → HasFields line a b c d → ⊥
no_name line word a b c d h = not_word a (b ++ (32 ∷ (c ++ (32 ∷ d)))) (subst IsWord h.joined word)

pub no_role : (line name rest : List ℕ) → IsCut line name rest → IsWord rest → (a b c d : List ℕ) → HasFields line a b c d → ⊥
no_role line name rest cut word a b c d h =
    let more = b ++ (32 ∷ (c ++ (32 ∷ d))) in
    let same = first_word name a rest more cut.word h.name_word (sym cut.joined ∙ h.joined) in
    not_word b (c ++ (32 ∷ d)) (subst IsWord same.rest word)

pub no_sum : (line name rest role more : List ℕ) → IsCut line name rest → IsCut rest role more → IsWord more →
    (a b c d : List ℕ) → HasFields line a b c d → ⊥
no_sum line name rest role more one two word a b c d h =
    let same = first_word name a rest (b ++ (32 ∷ (c ++ (32 ∷ d)))) one.word h.name_word (sym one.joined ∙ h.joined) in
    let again = first_word role b more (c ++ (32 ∷ d)) two.word h.role_word (sym two.joined ∙ same.rest) in
    not_word c d (subst IsWord again.rest word)
