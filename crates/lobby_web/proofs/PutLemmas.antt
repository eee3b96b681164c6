-- What a site has at each path once a file is put there, or taken off.
use Rattle.std.proofs.Common.{ℕ, ◌≡◌, ◌≢◌, inl, inr, List, [], ◌∷◌, ◌++◌, Option, None, Some, Bool, true, false, cond, not, filter, set, length, get_or, refl, sym, ap, ◌∙◌, nat_lt, arith}
use Rattle.std.specs.List.{find, position, position_or_len}
use Rattle.std.specs.Str.{bytes_eq}
use Rattle.std.proofs.lemmas.Bool.{cases_Bool, ltb-false, false_from_ne_true}
use Rattle.std.proofs.lemmas.List.Folds.{find_at, find-set, find_past}
use Rattle.std.proofs.lemmas.List.Quantifiers.{position-Some}
use Rattle.std.proofs.lemmas.List.Sums.{position_or_len_is}
use Rattle.std.proofs.lemmas.Option.{slice_get_past}
use Rattle.std.proofs.lemmas.Slice.Eq.{bytes_eq-Decides}
use Rattle.lobby_web.specs.declared.site.File.{File}

-- the file has this path
abbrev pub is_at : List ℕ → File → Bool
is_at path file = bytes_eq file.path.items path

pub its_own : (file : File) → is_at file.path.items file ≡ true
its_own file = (bytes_eq-Decides file.path.items file.path.items).1 refl

-- a file of one path has no other
pub one_path : (path other : List ℕ) (file : File) → other ≢ path → is_at path file ≡ true → is_at other file ≡ false
one_path path other file differ is = false_from_ne_true (is_at other file)
    (λ same. differ (sym ((bytes_eq-Decides file.path.items other).0 same) ∙ (bytes_eq-Decides file.path.items path).0 is))

-- ---- in the place of another

pub there-set : (files : List File) (place : ℕ) (file : File) → position (is_at file.path.items) files ≡ Some place →
    find (is_at file.path.items) (set files place file) ≡ Some file
there-set files place file found =
    let p = is_at file.path.items in
    let at = position-Some p files place file found in
    find-set p files place file (sym (position_or_len_is p files place file (grind (arith, at.0)) at.2 (λ within. at.1))) at.0 (its_own file)

pub others-set : (other : List ℕ) (files : List File) (place : ℕ) (file : File) → position (is_at file.path.items) files ≡ Some place →
    other ≢ file.path.items → find (is_at other) (set files place file) ≡ find (is_at other) files
others-set other files place file found differ =
    let at = position-Some (is_at file.path.items) files place file found in
    find_past (is_at other) files place file file (one_path file.path.items other (get_or files place file) differ at.1)
    (one_path file.path.items other file differ (its_own file))

-- ---- behind all others

pub no_place : (p : File → Bool) (files : List File) → position p files ≡ None → find p files ≡ None
no_place p files none = elim (cases_Bool (nat_lt (position_or_len p files) (length files))) [
  | inl less ↦ absurd (grind (arith, less, none))
  | inr past ↦ find_at p files ∙ slice_get_past files (position_or_len p files) (ltb-false (position_or_len p files) (length files) past)
]

pub there-push : (p : File → Bool) (files : List File) (file : File) → find p files ≡ None → p file ≡ true →
    find p (files ++ file ∷ []) ≡ Some file
there-push p [] file none is = ap (λ (b : Bool). cond b (Some file) None) is
there-push p (x ∷ xs) file none is = elim (cases_Bool (p x)) [
  | inl same ↦ absurd (grind (arith, none, same))
  | inr differs ↦
      ap (λ (b : Bool). cond b (Some x) (find p (xs ++ file ∷ []))) differs
      ∙ there-push p xs file (sym (ap (λ (b : Bool). cond b (Some x) (find p xs)) differs) ∙ none) is
]

pub others-push : (p : File → Bool) (files : List File) (file : File) → p file ≡ false → find p (files ++ file ∷ []) ≡ find p files
others-push p [] file other = ap (λ (b : Bool). cond b (Some file) None) other
others-push p (x ∷ xs) file other = ap (λ (o : Option File). cond (p x) (Some x) o) (others-push p xs file other)

-- ---- taken off

-- all files but those of a path
abbrev pub but : List ℕ → List File → List File
but path files = filter (λ file. not (is_at path file)) files

pub there-off : (path : List ℕ) (files : List File) → find (is_at path) (but path files) ≡ None
there-off path [] = refl
there-off path (x ∷ xs) = elim (cases_Bool (is_at path x)) [
  | inl same ↦
      ap (λ (b : Bool). find (is_at path) (cond (not b) (x ∷ but path xs) (but path xs))) same ∙ there-off path xs
  | inr differs ↦
      ap (λ (b : Bool). find (is_at path) (cond (not b) (x ∷ but path xs) (but path xs))) differs
      ∙ (ap (λ (b : Bool). cond b (Some x) (find (is_at path) (but path xs))) differs ∙ there-off path xs)
]

pub others-off : (path other : List ℕ) (files : List File) → other ≢ path → find (is_at other) (but path files) ≡ find (is_at other) files
others-off path other [] differ = refl
others-off path other (x ∷ xs) differ = elim (cases_Bool (is_at path x)) [
  | inl same ↦
      ap (λ (b : Bool). find (is_at other) (cond (not b) (x ∷ but path xs) (but path xs))) same
      ∙ (others-off path other xs differ
      ∙ sym (ap (λ (b : Bool). cond b (Some x) (find (is_at other) xs)) (one_path path other x differ same)))
  | inr differs ↦
      ap (λ (b : Bool). find (is_at other) (cond (not b) (x ∷ but path xs) (but path xs))) differs
      ∙ ap (λ (o : Option File). cond (is_at other x) (Some x) o) (others-off path other xs differ)
]
