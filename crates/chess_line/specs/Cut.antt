-- A text cut at its first space.
use Rattle.std.specs.Prelude.{ℕ, ◌≢◌, List, ◌∷◌, ◌++◌, Option, Some, None, EachIndex, slice_index}
use Rattle.std.specs.Borrow.{Bor}

abbrev pub Unspaced : List ℕ → Type 0
Unspaced text = EachIndex text (λ i. slice_index text i ≢ 32)

-- the bytes of what follows, where anything does
abbrev pub rest_of : Option (Bor (List ℕ)) → Option (List ℕ)
rest_of None = None
rest_of (Some rest) = Some rest.now

-- a field, and where anything follows it, a space and that
abbrev pub joined : List ℕ → Option (List ℕ) → List ℕ
joined field None = field
joined field (Some rest) = field ++ (32 ∷ rest)
