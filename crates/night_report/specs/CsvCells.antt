-- The texts of a spreadsheet's cells. A program of spreadsheets may take one for a formula, and do what that says,
-- where it begins with `=`, `+`, `-` or `@`, which by some languages' keyboards are of full width (U+FF1D, U+FF0B,
-- U+FF0D, U+FF20), or with a tab, behind which it looks on; so an apostrophe stands before it.
use Rattle.std.specs.Prelude.{ℕ, ◌==◌, ◌||◌, Bool, false, List, [], ◌∷◌, if◌then◌else◌}
use Rattle.std.specs.List.{starts_with}

abbrev pub is_sign : ℕ → Bool
is_sign b = b == 61 || b == 43 || b == 45 || b == 64 || b == 9

-- in UTF-8
abbrev pub begins_wide : List ℕ → Bool
begins_wide text =
    starts_with (λ x y. x == y) text (239 ∷ 188 ∷ 157 ∷ [])
    || starts_with (λ x y. x == y) text (239 ∷ 188 ∷ 139 ∷ [])
    || starts_with (λ x y. x == y) text (239 ∷ 188 ∷ 141 ∷ [])
    || starts_with (λ x y. x == y) text (239 ∷ 188 ∷ 160 ∷ [])

-- A lone byte is no formula, as the `-` of a round that is none.
abbrev pub is_formula : List ℕ → Bool
is_formula [] = false
is_formula (b ∷ []) = false
is_formula (b ∷ c ∷ more) = is_sign b || begins_wide (b ∷ c ∷ more)

abbrev pub cell_text : List ℕ → List ℕ
cell_text text = if is_formula text then 39 ∷ text else text
