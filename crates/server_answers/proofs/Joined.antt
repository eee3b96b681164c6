-- A line that was joined of fields has these fields, and each line is joined of its own.
use Rattle.std.proofs.Common.{ℕ, zero, suc, ◌≡◌, ◌+◌, ◌==◌, Bool, true, false, List, [], ◌∷◌, length, take, drop, refl, sym, ap, subst, ◌∙◌, arith}
use Rattle.std.specs.List.{All, position_or_len, count_by, slice_split, onto_first}
use Rattle.std.proofs.lemmas.Bool.{or_parts}
use Rattle.std.proofs.lemmas.Bool.Decides.{nat_tests}
use Rattle.std.proofs.lemmas.List.Elements.{All-cons}
use Rattle.std.proofs.lemmas.List.Sums.{sum_by-cons}
use Rattle.std.proofs.lemmas.List.Splits.{slice_split_at, slice_split_none, join_with_byte-slice_split, length-slice_split}
use Rattle.std.specs.Prelude.{if◌then◌else◌}
use Rattle.text_parts.proofs.Cuts.{Lacks}
use Rattle.server_answers.specs.Fields.{field_of, rest_of, first_fields, field_count, has_fields, line_of}

abbrev pub split : List ℕ → List (List ℕ)
split line = slice_split (λ b. b == 32) line

abbrev pub spaces : List ℕ → ℕ
spaces line = count_by (λ b. b == 32) line

-- ---- the first fields of a line are its parts

one_more : (n : ℕ) → suc n ≡ 1 + n
one_more n = omega arith

two_more : (n : ℕ) → suc (n + 1) ≡ 1 + n + 1
two_more n = omega arith

field_more : (b : ℕ) (bs : List ℕ) → (b == 32) ≡ false → field_of (b ∷ bs) ≡ b ∷ field_of bs
field_more b bs e = rw e (sym (ap (λ (k : ℕ). take k (b ∷ bs)) (one_more (position_or_len (λ x. x == 32) bs))))

rest_more : (b : ℕ) (bs : List ℕ) → (b == 32) ≡ false → rest_of (b ∷ bs) ≡ rest_of bs
rest_more b bs e = rw e (sym (ap (λ (k : ℕ). drop k (b ∷ bs)) (two_more (position_or_len (λ x. x == 32) bs))))

field_here : (b : ℕ) (bs : List ℕ) → (b == 32) ≡ true → field_of (b ∷ bs) ≡ []
field_here b bs e = rw e refl

rest_here : (b : ℕ) (bs : List ℕ) → (b == 32) ≡ true → rest_of (b ∷ bs) ≡ bs
rest_here b bs e = rw e refl

spaces_here : (b : ℕ) (bs : List ℕ) → (b == 32) ≡ true → spaces (b ∷ bs) ≡ 1 + spaces bs
spaces_here b bs e = sum_by-cons (λ (x : ℕ). if x == 32 then 1 else 0) b bs ∙ ap (λ (t : Bool). (if t then 1 else 0) + spaces bs) e

none_more : (n : ℕ) → 0 + n ≡ n
none_more n = omega arith

spaces_more : (b : ℕ) (bs : List ℕ) → (b == 32) ≡ false → spaces (b ∷ bs) ≡ spaces bs
spaces_more b bs e =
    sum_by-cons (λ (x : ℕ). if x == 32 then 1 else 0) b bs
    ∙ (ap (λ (t : Bool). (if t then 1 else 0) + spaces bs) e ∙ none_more (spaces bs))

split_here : (b : ℕ) (bs : List ℕ) → (b == 32) ≡ true → split (b ∷ bs) ≡ [] ∷ split bs
split_here b bs e = rw e refl

split_more : (b : ℕ) (bs : List ℕ) → (b == 32) ≡ false → split (b ∷ bs) ≡ onto_first b (split bs)
split_more b bs e = rw e refl

more_fields : (b : ℕ) (bs : List ℕ) (n : ℕ) → (b == 32) ≡ false →
    first_fields (suc n) (b ∷ bs) ≡ onto_first b (first_fields (suc n) bs)
more_fields b bs n e =
    ap (λ (f : List ℕ). f ∷ first_fields n (rest_of (b ∷ bs))) (field_more b bs e)
    ∙ ap (λ (r : List ℕ). (b ∷ field_of bs) ∷ first_fields n r) (rest_more b bs e)

here_fields : (b : ℕ) (bs : List ℕ) (n : ℕ) → (b == 32) ≡ true → first_fields (suc n) (b ∷ bs) ≡ [] ∷ first_fields n bs
here_fields b bs n e =
    ap (λ (f : List ℕ). f ∷ first_fields n (rest_of (b ∷ bs))) (field_here b bs e)
    ∙ ap (λ (r : List ℕ). [] ∷ first_fields n r) (rest_here b bs e)

split_at : (b : ℕ) (bs : List ℕ) (n : ℕ) (t : Bool) → (b == 32) ≡ t → spaces (b ∷ bs) ≡ n →
    ((m : ℕ) → spaces bs ≡ m → first_fields (suc m) bs ≡ split bs) → first_fields (suc n) (b ∷ bs) ≡ split (b ∷ bs)
split_at b bs zero true e count more = absurd (let h = spaces_here b bs e in omega (arith, h, count))
split_at b bs (suc n) true e count more =
    let left : spaces bs ≡ n = let h = spaces_here b bs e in omega (arith, h, count) in
    here_fields b bs (suc n) e ∙ (ap (λ (fs : List (List ℕ)). [] ∷ fs) (more n left) ∙ sym (split_here b bs e))
split_at b bs n false e count more =
    more_fields b bs n e ∙ (ap (onto_first b) (more n (sym (spaces_more b bs e) ∙ count)) ∙ sym (split_more b bs e))

pub split_is : (line : List ℕ) (n : ℕ) → spaces line ≡ n → first_fields (suc n) line ≡ split line
split_is [] zero count = refl
split_is [] (suc n) count = absurd (omega (arith, count))
split_is (b ∷ bs) n count = split_at b bs n (b == 32) refl count (λ m left. split_is bs m left)

-- ---- a line is joined of its fields

counted : (n : ℕ) (line : List ℕ) → has_fields (suc n) line ≡ true → spaces line ≡ n
counted n line h = grind (arith, nat_tests)

pub joined : (n : ℕ) (line : List ℕ) → has_fields (suc n) line ≡ true → line ≡ line_of (first_fields (suc n) line)
joined n line h =
    sym (ap line_of (split_is line n (counted n line h)) ∙ join_with_byte-slice_split 32 line)

-- ---- a line that is joined has the fields that it was joined of

pub all_lack : (text : List ℕ) → Lacks 32 text → All (λ (b : ℕ). (b == 32) ≡ false) text
all_lack [] h = λ k d below. absurd (omega (arith, below))
all_lack (b ∷ bs) h =
    let parts = or_parts (b == 32) _ h in
    All-cons (λ (b : ℕ). (b == 32) ≡ false) b bs parts.0 (all_lack bs parts.1)

abbrev pub EachLacks : List (List ℕ) → Type 0
EachLacks [] = Unit {0}
EachLacks (f ∷ fs) = Lacks 32 f × EachLacks fs

split_joined : (f : List ℕ) (fs : List (List ℕ)) → EachLacks (f ∷ fs) → split (line_of (f ∷ fs)) ≡ f ∷ fs
split_joined f [] h = slice_split_none (λ b. b == 32) f (all_lack f h.0)
split_joined f (g ∷ fs) h =
    slice_split_at (λ b. b == 32) f 32 (line_of (g ∷ fs)) (all_lack f h.0) refl
    ∙ ap (λ (more : List (List ℕ)). f ∷ more) (split_joined g fs h.1)

spaces_in : (line : List ℕ) (n : ℕ) → length (split line) ≡ suc n → spaces line ≡ n
spaces_in line n h = let parts = length-slice_split (λ (b : ℕ). b == 32) line in omega (arith, parts, h)

spaces_joined : (f : List ℕ) (fs : List (List ℕ)) → EachLacks (f ∷ fs) → spaces (line_of (f ∷ fs)) ≡ length fs
spaces_joined f fs h = spaces_in (line_of (f ∷ fs)) (length fs) (ap length (split_joined f fs h))

as_counted : (n : ℕ) (line : List ℕ) → spaces line ≡ n → has_fields (suc n) line ≡ true
as_counted n line h = grind (arith, nat_tests)

pub has_joined : (f : List ℕ) (fs : List (List ℕ)) → EachLacks (f ∷ fs) → has_fields (suc (length fs)) (line_of (f ∷ fs)) ≡ true
has_joined f fs h = as_counted (length fs) (line_of (f ∷ fs)) (spaces_joined f fs h)

pub fields_joined : (f : List ℕ) (fs : List (List ℕ)) → EachLacks (f ∷ fs) →
    first_fields (suc (length fs)) (line_of (f ∷ fs)) ≡ f ∷ fs
fields_joined f fs h = split_is (line_of (f ∷ fs)) (length fs) (spaces_joined f fs h) ∙ split_joined f fs h

pub count_joined : (f : List ℕ) (fs : List (List ℕ)) → EachLacks (f ∷ fs) → field_count (line_of (f ∷ fs)) ≡ suc (length fs)
count_joined f fs h = let spaces = spaces_joined f fs h in omega (arith, spaces)

counted_at : (line : List ℕ) (n : ℕ) → field_count line ≡ suc n → spaces line ≡ n
counted_at line n h = omega (arith, h)

pub joined_at : (n : ℕ) (line : List ℕ) → field_count line ≡ suc n → line ≡ line_of (first_fields (suc n) line)
joined_at n line h =
    sym (ap line_of (split_is line n (counted_at line n h)) ∙ join_with_byte-slice_split 32 line)

-- ---- no space stands in a field

field_by : (b : ℕ) (bs : List ℕ) (t : Bool) → (b == 32) ≡ t → Lacks 32 (field_of bs) → Lacks 32 (field_of (b ∷ bs))
field_by b bs true e more = subst (Lacks 32) (sym (field_here b bs e)) refl
field_by b bs false e more = subst (Lacks 32) (sym (field_more b bs e)) (rw e more)

pub field_lacks : (line : List ℕ) → Lacks 32 (field_of line)
field_lacks [] = refl
field_lacks (b ∷ bs) = field_by b bs (b == 32) refl (field_lacks bs)
