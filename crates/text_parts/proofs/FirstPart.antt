-- Parts, one after another.
use Rattle.std.proofs.Common.{ℕ, suc, ◌≡◌, ◌+◌, ◌<◌, true, false, Bool, List, [], ◌∷◌, ◌++◌, length, take, drop, refl, sym, ap, ◌∙◌, arith, map, append_assoc, append-nil}
use Rattle.std.specs.Prelude.{◌==◌}
use Rattle.std.specs.Borrow.{Bor}
use Rattle.std.specs.List.{before_first, after_first, position_or_len, onto_first}
use Rattle.std.proofs.Math.Seq.{take-length}
use Rattle.std.proofs.lemmas.List.{map-append, drop_all}
use Rattle.text_parts.specs.Parts.{parts_of}

one_more : (n : ℕ) → suc n ≡ 1 + n
one_more n = omega arith

two_more : (n : ℕ) → suc (n + 1) ≡ 1 + n + 1
two_more n = omega arith

-- the first part, where there is something
first_by : (sign b : ℕ) (bs : List ℕ) (is : Bool) → (b == sign) ≡ is →
    parts_of sign (b ∷ bs) ≡ before_first (λ x. x == sign) (b ∷ bs) ∷ parts_of sign (after_first (λ x. x == sign) (b ∷ bs))
first_by sign b bs true e = rw e refl
first_by sign b [] false e = rw e refl
first_by sign b (d ∷ ds) false e =
    let n = position_or_len (λ x. x == sign) (d ∷ ds) in
    rw e (ap (onto_first b) (first_by sign d ds (d == sign) refl) ∙
    (ap (λ (k : ℕ). take k (b ∷ d ∷ ds) ∷ parts_of sign (drop (n + 1) (d ∷ ds))) (one_more n) ∙
    ap (λ (k : ℕ). take (1 + n) (b ∷ d ∷ ds) ∷ parts_of sign (drop k (b ∷ d ∷ ds))) (two_more n)))

pub first_part : (sign : ℕ) (text : List ℕ) → 0 < length text →
    parts_of sign text ≡ before_first (λ x. x == sign) text ∷ parts_of sign (after_first (λ x. x == sign) text)
first_part sign [] some = absurd (omega arith)
first_part sign (b ∷ bs) some = first_by sign b bs (b == sign) refl

-- where no sign stands, all is one part
pub last_part : (sign : ℕ) (text : List ℕ) → 0 < length text → position_or_len (λ x. x == sign) text ≡ length text →
    parts_of sign text ≡ text ∷ []
last_part sign text some none =
    first_part sign text some
    ∙ (ap (λ (k : ℕ). take k text ∷ parts_of sign (drop (k + 1) text)) none
    ∙ (ap (λ (part : List ℕ). part ∷ parts_of sign (drop (length text + 1) text)) (take-length text)
    ∙ ap (λ (rest : List ℕ). text ∷ parts_of sign rest) (drop_all (length text + 1) text (omega arith))))

-- a part is taken off what is left
pub taken : (sign : ℕ) (before after : List (Bor (List ℕ))) (part : Bor (List ℕ)) (rest behind all : List ℕ) → 0 < length rest →
    map (λ (p : Bor (List ℕ)). p.now) before ++ parts_of sign rest ≡ parts_of sign all →
    after ≡ before ++ part ∷ [] → part.now ≡ before_first (λ x. x == sign) rest → behind ≡ after_first (λ x. x == sign) rest →
    map (λ (p : Bor (List ℕ)). p.now) after ++ parts_of sign behind ≡ parts_of sign all
taken sign before after part rest behind all some so_far put is left =
    let now = λ (p : Bor (List ℕ)). p.now in
    ap (λ (ps : List (Bor (List ℕ))). map now ps ++ parts_of sign behind) put
    ∙ (ap (λ (ps : List (List ℕ)). ps ++ parts_of sign behind) (map-append now before (part ∷ []))
    ∙ (append_assoc (map now before) (part.now ∷ []) (parts_of sign behind)
    ∙ (ap (λ (p : List ℕ). map now before ++ (p ∷ parts_of sign behind)) is
    ∙ (ap (λ (r : List ℕ). map now before ++ (before_first (λ x. x == sign) rest ∷ parts_of sign r)) left
    ∙ (ap (λ (ps : List (List ℕ)). map now before ++ ps) (sym (first_part sign rest some))
    ∙ so_far)))))

-- the last part
pub taken_last : (sign : ℕ) (before after : List (Bor (List ℕ))) (rest : Bor (List ℕ)) (all : List ℕ) → 0 < length rest.now →
    map (λ (p : Bor (List ℕ)). p.now) before ++ parts_of sign rest.now ≡ parts_of sign all →
    after ≡ before ++ rest ∷ [] → position_or_len (λ x. x == sign) rest.now ≡ length rest.now →
    map (λ (p : Bor (List ℕ)). p.now) after ≡ parts_of sign all
taken_last sign before after rest all some so_far put none =
    let now = λ (p : Bor (List ℕ)). p.now in
    ap (map now) put
    ∙ (map-append now before (rest ∷ [])
    ∙ (ap (λ (ps : List (List ℕ)). map now before ++ ps) (sym (last_part sign rest.now some none))
    ∙ so_far))

-- nothing is left
pub taken_all : (sign : ℕ) (parts : List (List ℕ)) (rest all : List ℕ) → length rest ≡ 0 →
    parts ++ parts_of sign rest ≡ parts_of sign all → parts ≡ parts_of sign all
taken_all sign parts [] all none so_far = sym (append-nil parts) ∙ so_far
taken_all sign parts (b ∷ bs) all none so_far = absurd (omega arith)

pub none_left : (rest : List ℕ) (b : Bool) → b ≡ (length rest == 0) → b ≡ true → length rest ≡ 0
none_left rest b is empty = grind (arith)

pub some_left : (rest : List ℕ) (b : Bool) → b ≡ (length rest == 0) → b ≡ false → 0 < length rest
some_left rest b is filled = grind (arith)
