-- What a read brought, and what is held of it.
use Rattle.std.specs.Prelude.{ℕ, ◌≡◌, ◌≢◌, List, [], ◌++◌, Option}
use Rattle.std.specs.Io.KnownBytes.{Consumes}
use Rattle.text_lines.specs.Lines.{IsUnfinished}
use Rattle.text_lines.specs.declared.pieces.Came.{Came}
use Rattle.text_lines.specs.declared.pieces.Came.TheVariants.{Bytes}

-- what a read brought of a reader's bytes: some, or none
abbrev pub IsBrought : Came → List ℕ → Type 0
IsBrought (Bytes count) taken = taken ≢ []
IsBrought came taken = taken ≡ []

pub record Brings (before after : Option (List ℕ)) (came : Came) : Type 0 where
  pub taken : List ℕ
  pub consumed : Consumes before after taken
  pub brought : IsBrought came taken

-- Bytes came of a reader, and stand behind those that were held back; none came where these have a line.
pub record Takes (before after : Option (List ℕ)) (old new : List ℕ) : Type 0 where
  pub taken : List ℕ
  pub consumed : Consumes before after taken
  pub unfinished : taken ≢ [] → IsUnfinished old
  pub order : new ≡ old ++ taken
