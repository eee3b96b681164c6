-- What an archive keeps.
use Rattle.std.specs.Prelude.{ℕ, ◌≡◌, ◌≤◌, Bool, false, List, [], ◌∷◌, length, drop, Some, None, codes}
use Rattle.night_files.specs.Lines.{IsRecord, AreRecords, text_of, records_in}
use Rattle.night_files.specs.Torn.{torn_fault, has_beginning}
use Rattle.night_archive.specs.declared.archive.Archive.{Archive}
use Rattle.night_archive.specs.Laws.{IsOnce}
use Rattle.night_archive.specs.Line.{game_in}

-- the file in which an archive stands, and whether that is open: nothing is put into it otherwise
abbrev pub file_of : {F : Type 0} → Archive F → F
file_of {F} archive = archive.records.file

abbrev pub is_open : {F : Type 0} → Archive F → Bool
is_open {F} archive = archive.records.is_open

-- a line that stands alone and names the game
pub record IsLine (game : ℕ) (line : List ℕ) : Type 0 where
  pub is : IsRecord line
  pub names : game_in line ≡ Some game

-- these games, a line each, in this order
abbrev pub AreLinesOf : List ℕ → List (List ℕ) → Type 0
AreLinesOf [] [] = Unit {0}
AreLinesOf [] (line ∷ lines) = ⊥
AreLinesOf (game ∷ games) [] = ⊥
AreLinesOf (game ∷ games) (line ∷ lines) = (game_in line ≡ Some game) × AreLinesOf games lines

-- A file keeps just these lines, all of them safe; they are those of these games, and no game has two.
pub record Keeps (safe pending : List ℕ) (games : List ℕ) (lines : List (List ℕ)) : Type 0 where
  pub are : AreRecords lines
  pub text : safe ≡ text_of lines
  pub settled : pending ≡ []
  pub of : AreLinesOf games lines
  pub once : IsOnce games

-- What stands behind the lines may be cut off: what a kill or the machine's stop may leave of the one line that was
-- being put, at most 4 MiB, behind whose first byte no other line begins.
abbrev pub may_be_cut : List ℕ → Type 0
may_be_cut behind = torn_fault (codes "{\"game\":") 4_194_304 behind ≡ None

-- Behind so many bytes stands nothing, or at most 4 MiB of whole lines in which no game's line begins: none of a game
-- is cut off there.
pub record IsOwnLength (bytes : List ℕ) (own : ℕ) : Type 0 where
  pub within : own ≤ length bytes
  pub none : has_beginning (codes "{\"game\":") (drop own bytes) ≡ false
  pub whole : drop own bytes ≡ text_of (records_in (drop own bytes))
  pub short : length (drop own bytes) ≤ 4_194_304
