-- A player is put into a players' file.
use Rattle.std.specs.Prelude.{ℕ, ◌≡◌, Bool, true, false, not, List, [], ◌∷◌, ◌++◌, codes, filter, if◌then◌else◌}
use Rattle.std.specs.Str.{bytes_eq}
use Rattle.std.specs.List.{list_any}
use Rattle.hex.specs.Hex.{encode_lower}
use Rattle.sha2.specs.Sha256.{sha256}
use Rattle.player_name.specs.Name.{IsName}
use Rattle.lobby_words.specs.Words.{word_of}
use Rattle.lobby_words.specs.Lines.{bytes_of}
use Rattle.lobby_players.specs.declared.adding.Addition.{Addition}
use Rattle.lobby_players.specs.declared.faults.AddFault.{AddFault}
use Rattle.lobby_players.specs.declared.faults.AddFault.TheVariants as faults
use Rattle.lobby_players.specs.File.{Entry, lines_of, has_name, is_alike, has_sum, IsFileOf, role_text, is_full_name}
use Rattle.lobby_players.specs.Faults.{IsFault}

-- the player who is put in, with the sum of this token
abbrev pub entry_with : Addition → List ℕ → Entry
entry_with who sum = record {
  name = who.name.now;
  is_arbiter = who.is_arbiter;
  sum = sum;
  full_name = who.full_name.now;
}

abbrev pub entry_added : Addition → List ℕ → Entry
entry_added who token = entry_with who (sha256 (encode_lower token))

abbrev pub line_of : Entry → List ℕ
line_of e =
    e.name ++ (codes " " ++ (role_text e.is_arbiter
    ++ (codes " " ++ (encode_lower e.sum ++ (codes " " ++ e.full_name)))))

-- the line of who has this name
abbrev pub is_of : List ℕ → List ℕ → Bool
is_of name line = bytes_eq (word_of line) name

-- one in the place of the first that a test picks, and behind all where it picks none
abbrev pub in_place : {A : Type 0} → (A → Bool) → A → List A → List A
in_place p x [] = x ∷ []
in_place p x (y ∷ ys) = if p y then x ∷ ys else y ∷ in_place p x ys

-- the text's lines with the player's: in the place of the line of this name, or behind all
abbrev pub added_text : List ℕ → Entry → List ℕ
added_text text e = bytes_of (in_place (is_of e.name) (line_of e) (lines_of text))

-- the players with this one: in the place of the one of this name, or behind all
abbrev pub added_entries : List Entry → Entry → List Entry
added_entries entries e = in_place (has_name e.name) e entries

abbrev pub is_other : List ℕ → Entry → Bool
is_other name one = not (has_name name one)

-- The new text is the file with the player: all other lines stand in it as they did and where they did, and it is a
-- file of the players with this one; it is told whether the file had none of this name.
pub record IsAdded (text : List ℕ) (e : Entry) (new : List ℕ) (is_new : Bool) : Type 0 where
  pub entries : List Entry
  pub before : IsFileOf text entries
  pub written : new ≡ added_text text e
  pub after : IsFileOf new (added_entries entries e)
  pub none_before : is_new ≡ not (list_any (has_name e.name) entries)

-- another player of the file has the token
pub record IsTaken (text : List ℕ) (e : Entry) : Type 0 where
  pub entries : List Entry
  pub before : IsFileOf text entries
  pub another : list_any (has_sum e.sum) (filter (is_other e.name) entries) ≡ true

-- another player of the file has the name in other letters, small or capital
pub record IsNamedAlike (text : List ℕ) (e : Entry) : Type 0 where
  pub entries : List Entry
  pub before : IsFileOf text entries
  pub another : list_any (is_alike e.name) (filter (is_other e.name) entries) ≡ true

abbrev pub IsAddFault : List ℕ → Entry → AddFault → Type 0
IsAddFault text e (faults.File fault) = IsFault text fault
IsAddFault text e faults.BadName = ¬ IsName e.name
IsAddFault text e faults.BadFullName = is_full_name e.full_name ≡ false
IsAddFault text e faults.NameAlike = IsNamedAlike text e
IsAddFault text e faults.TokenTaken = IsTaken text e
IsAddFault text e faults.NoMemory = Unit {0}
