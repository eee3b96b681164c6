-- What a session is given at once of the bytes that came for it.
use Rattle.std.specs.Prelude.{ℕ, ◌≡◌, ◌≤◌, ◌<◌, ◌⊎◌, Bool, true, false, List, [], ◌∷◌, ◌++◌, ◌||◌, eqb, codes, length}
use Rattle.std.specs.List.{All, starts_with}
use Rattle.text_lines.specs.Lines.{HasNoFeed}
use Rattle.text_lines.specs.Heard.{ended_bytes}

-- whether a line asks for much: the list of all games, or the moves of one
abbrev pub is_dear : List ℕ → Bool
is_dear line = starts_with eqb line (codes "list") || starts_with eqb line (codes "pgn ")

-- These bytes are so many lines, each with its line feed, of which none asks for much.
pub record AreLines (count : ℕ) (bytes : List ℕ) : Type 0 where
  pub parts : List (List ℕ)
  pub cut : bytes ≡ ended_bytes parts
  pub lines : All HasNoFeed parts
  pub cheap : All (λ line. is_dear line ≡ false) parts
  pub number : length parts ≡ count

-- These bytes begin with a line that asks for much.
pub record BeginDear (bytes : List ℕ) : Type 0 where
  pub line : List ℕ
  pub more : List ℕ
  pub cut : bytes ≡ line ++ 10 ∷ more
  pub no_feed : HasNoFeed line
  pub dear : is_dear line ≡ true

-- These bytes are one line that asks for much.
pub record IsDearLine (bytes : List ℕ) : Type 0 where
  pub line : List ℕ
  pub cut : bytes ≡ line ++ 10 ∷ []
  pub no_feed : HasNoFeed line
  pub dear : is_dear line ≡ true

-- These bytes are the front of a line that is too long, however it goes on.
pub record IsTooLong (bytes : List ℕ) : Type 0 where
  pub no_feed : HasNoFeed bytes
  pub long : 255 < length bytes

abbrev pub AreFewLines : List ℕ → Type 0
AreFewLines bytes = (count : ℕ) × (count ≤ 16) × AreLines count bytes

-- What a session may be given at once: lines that ask for little, or one that asks for much.
abbrev pub IsPortion : List ℕ → Type 0
IsPortion bytes = AreFewLines bytes ⊎ IsDearLine bytes ⊎ IsTooLong bytes

-- No line can be given with these of those that are left: they are sixteen, or one that asks for much; or no line is
-- left, or the next asks for much.
abbrev pub AreMost : List ℕ → List ℕ → Type 0
AreMost bytes rest = AreLines 16 bytes ⊎ IsDearLine bytes ⊎ HasNoFeed rest ⊎ BeginDear rest

-- The portion that a session may be given of all these bytes.
pub record IsPortionOf (bytes portion : List ℕ) : Type 0 where
  pub rest : List ℕ
  pub order : bytes ≡ portion ++ rest
  pub given : IsPortion portion
  pub most : AreMost portion rest
