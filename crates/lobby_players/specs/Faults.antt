-- What is wrong with a text that is no players' file.
use Rattle.std.specs.Prelude.{ℕ, suc, ◌≡◌, true, false, ◌==◌, ◌⊎◌, List, [], ◌∷◌, ◌++◌, length, take, Option, Some}
use Rattle.std.specs.Prelude.{None}
use Rattle.std.specs.List.{list_any, count_by}
use Rattle.std.specs.Str.{IsUtf8}
use Rattle.std.specs.Str.Lossy.{utf8_valid_len}
use Rattle.lobby_players.specs.declared.faults.LineFault.{LineFault}
use Rattle.lobby_players.specs.declared.faults.LineFault.TheVariants as line_faults
use Rattle.lobby_players.specs.declared.faults.PlayersFault.{PlayersFault}
use Rattle.lobby_players.specs.declared.faults.PlayersFault.TheVariants as faults
use Rattle.lobby_players.specs.declared.faults.RereadFault.{RereadFault}
use Rattle.lobby_players.specs.declared.faults.RereadFault.TheVariants as reread_faults
use Rattle.lobby_players.specs.File.{Entry, IsLineOf, AreLinesOf, IsFileOf, lines_of, is_silent, has_name, is_alike}
use Rattle.lobby_players.specs.File.{has_sum, ends_line}

-- the line tells of a player whose name, or whose sum, one of those before has
pub record HasNameOf (before : List Entry) (line : List ℕ) : Type 0 where
  pub entry : Entry
  pub told : IsLineOf line entry
  pub again : list_any (has_name entry.name) before ≡ true

-- the same, but the names differ in small and capital letters
pub record HasNameLike (before : List Entry) (line : List ℕ) : Type 0 where
  pub entry : Entry
  pub told : IsLineOf line entry
  pub named : list_any (has_name entry.name) before ≡ false
  pub alike : list_any (is_alike entry.name) before ≡ true

pub record HasSumOf (before : List Entry) (line : List ℕ) : Type 0 where
  pub entry : Entry
  pub told : IsLineOf line entry
  pub named : list_any (is_alike entry.name) before ≡ false
  pub again : list_any (has_sum entry.sum) before ≡ true

-- what is wrong with a line behind those of these players
abbrev pub IsLineFault : List Entry → List ℕ → LineFault → Type 0
IsLineFault before line line_faults.NotPlayer = (is_silent line ≡ false) × ((e : Entry) → ¬ IsLineOf line e)
IsLineFault before line line_faults.NameTwice = (is_silent line ≡ false) × HasNameOf before line
IsLineFault before line line_faults.NameAlike = (is_silent line ≡ false) × HasNameLike before line
IsLineFault before line line_faults.TokenTwice = (is_silent line ≡ false) × HasSumOf before line

-- The line of this number, counted from 1, is the first that has a fault.
pub record IsFirstFault (text : List ℕ) (at : ℕ) (fault : LineFault) : Type 0 where
  pub before : List (List ℕ)
  pub line : List ℕ
  pub after : List (List ℕ)
  pub lines : lines_of text ≡ before ++ (line ∷ after)
  pub number : at ≡ suc (length before)
  pub entries : List Entry
  pub told : AreLinesOf before entries
  pub wrong : IsLineFault entries line fault

-- In the line of this number stands the first byte that is no UTF-8.
pub record IsNotText (text : List ℕ) (at : ℕ) : Type 0 where
  pub broken : ¬ IsUtf8 text
  pub number : at ≡ suc (count_by (λ b. b == 10) (take (utf8_valid_len text) text))

abbrev pub IsFault : List ℕ → PlayersFault → Type 0
IsFault text (faults.NotText number) = IsNotText text number
IsFault text (faults.Line number fault) = IsFirstFault text number fault
IsFault text faults.NoMemory = Unit {0}

-- What is wrong with a text that is to take the place of one by which a lobby serves: it is no players' file, has no
-- player, or its last line has no end, so that it may be cut.
abbrev pub IsRereadFault : List ℕ → RereadFault → Type 0
IsRereadFault text (reread_faults.File fault) = IsFault text fault
IsRereadFault text reread_faults.NoPlayer = IsFileOf text []
IsRereadFault text reread_faults.CutShort = ends_line text ≡ false

pub record PutsPlayer (before : List Entry) (line : List ℕ) (after : List Entry) : Type 0 where
  pub spoken : is_silent line ≡ false
  pub entry : Entry
  pub told : IsLineOf line entry
  pub named : list_any (is_alike entry.name) before ≡ false
  pub shown : list_any (has_sum entry.sum) before ≡ false
  pub put : after ≡ before ++ (entry ∷ [])

-- What comes of a line behind those of these players: it is silent, and nothing changes; or its player is behind them;
-- or it has a fault.
abbrev pub TakesLine : List Entry → List ℕ → List Entry → Option LineFault → Type 0
TakesLine before line after None = ((is_silent line ≡ true) × (after ≡ before)) ⊎ PutsPlayer before line after
TakesLine before line after (Some fault) = IsLineFault before line fault
