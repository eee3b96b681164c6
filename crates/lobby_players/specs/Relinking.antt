-- A player of a players' file has a new link.
use Rattle.std.specs.Prelude.{ℕ, ◌≡◌, ◌≢◌, Bool, true, false, not, ◌&&◌, ◌==◌, List, length}
use Rattle.std.specs.Str.{bytes_eq}
use Rattle.std.specs.List.{list_any, list_all, zip}
use Rattle.std.specs.String.{string_bytes}
use Rattle.sha2.specs.Sha256.{sha256}
use Rattle.lobby_words.specs.declared.players.Player.{Player}
use Rattle.lobby_words.specs.Lines.{bytes_of}
use Rattle.lobby_players.specs.declared.faults.LinkFault.{LinkFault}
use Rattle.lobby_players.specs.declared.faults.LinkFault.TheVariants as faults
use Rattle.lobby_players.specs.File.{Entry, IsFileOf, lines_of, entries_of, has_name, has_sum}
use Rattle.lobby_players.specs.Faults.{IsFault}
use Rattle.lobby_players.specs.Adding.{in_place, is_of}

-- the player of this name, with this sum
abbrev pub entry_linked : List ℕ → List ℕ → Player → Entry
entry_linked name sum player = record {
  name = name;
  is_arbiter = player.is_arbiter;
  sum = sum;
  full_name = string_bytes player.full_name;
}

-- The texts are files of these players, and the new one is the old one but for the line of this name: all other lines
-- stand in it as they did and where they did.
pub record IsFileRelinked (name text new : List ℕ) (before after : List Player) : Type 0 where
  pub old_file : IsFileOf text (entries_of before)
  pub new_file : IsFileOf new (entries_of after)
  pub line : List ℕ
  pub written : new ≡ bytes_of (in_place (is_of name) line (lines_of text))

-- whether two players are the same: by name, role, sum and full name; and whether players are, one for one
abbrev pub is_same_role : Bool → Bool → Bool
is_same_role true b = b
is_same_role false b = not b

abbrev pub is_same_player : Player → Player → Bool
is_same_player a b =
    bytes_eq a.name b.name && is_same_role a.is_arbiter b.is_arbiter && bytes_eq a.sum b.sum
    && bytes_eq (string_bytes a.full_name) (string_bytes b.full_name)

abbrev pub are_same_players : List Player → List Player → Bool
are_same_players as' bs = length as' == length bs && list_all (λ pair. is_same_player pair.0 pair.1) (zip as' bs)

-- the text is a file of others than these players
pub record IsOfOthers (known : List Player) (text : List ℕ) : Type 0 where
  pub entries : List Entry
  pub file : IsFileOf text entries
  pub others : entries ≢ entries_of known

-- no player of the file has the name
pub record IsNobody (name text : List ℕ) : Type 0 where
  pub entries : List Entry
  pub before : IsFileOf text entries
  pub none : list_any (has_name name) entries ≡ false

-- a player of the file has the token
pub record IsHeld (token text : List ℕ) : Type 0 where
  pub entries : List Entry
  pub before : IsFileOf text entries
  pub held : list_any (has_sum (sha256 token)) entries ≡ true

abbrev pub IsLinkFault : List Player → List ℕ → List ℕ → List ℕ → LinkFault → Type 0
IsLinkFault known name token text (faults.File fault) = IsFault text fault
IsLinkFault known name token text faults.OtherPlayers = IsOfOthers known text
IsLinkFault known name token text faults.NoPlayer = IsNobody name text
IsLinkFault known name token text faults.TokenTaken = IsHeld token text
IsLinkFault known name token text faults.NoMemory = Unit {0}
