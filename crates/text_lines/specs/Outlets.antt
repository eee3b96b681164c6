-- What was said and where it is: written, or ready to be written.
use Rattle.std.specs.Prelude.{ℕ, ◌≡◌, ◌<◌, List, ◌++◌, Option, length}
use Rattle.std.specs.Io.KnownBytes.{Appends}

-- All that was said was written since this moment, or is ready.
pub record IsSaid (old new : Option (List ℕ)) (ready said : List ℕ) : Type 0 where
  pub front : List ℕ
  pub appended : Appends old new front
  pub split : said ≡ front ++ ready

-- A front of what was said was written since this moment, and the rest, which is not nothing, is lost.
pub record IsLost (old new : Option (List ℕ)) (said : List ℕ) : Type 0 where
  pub front : List ℕ
  pub lost : List ℕ
  pub appended : Appends old new front
  pub split : said ≡ front ++ lost
  pub some : 0 < length lost

-- What a call did that says a text: behind whatever was said before, it is said now, or a write failed.
abbrev pub Says : Option (List ℕ) → List ℕ → List ℕ → Option (List ℕ) → List ℕ → Type 0
Says now ready text new left = (old : Option (List ℕ)) (said : List ℕ) → IsSaid old now ready said
    → IsSaid old new left (said ++ text)

abbrev pub Loses : Option (List ℕ) → List ℕ → List ℕ → Option (List ℕ) → Type 0
Loses now ready text new = (old : Option (List ℕ)) (said : List ℕ) → IsSaid old now ready said
    → IsLost old new (said ++ text)
