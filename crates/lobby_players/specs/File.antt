-- The players' file.
use Rattle.std.specs.Prelude.{ℕ, ◌≡◌, ◌≢◌, ◌-◌, Bool, true, false, ◌&&◌, ◌||◌, ◌==◌, not, nat_le, List, [], ◌∷◌, ◌++◌}
use Rattle.std.specs.Prelude.{length, codes, Ok, EachIndex, slice_index, map, filter, chars}
use Rattle.std.specs.List.{AllZip, AllPairs, list_all, list_any}
use Rattle.std.specs.Char.{is_whitespace}
use Rattle.std.specs.Str.{bytes_eq, str_to_ascii_lowercase, str_eq_ignore_ascii_case}
use Rattle.std.specs.String.{string_bytes}
use Rattle.text_parts.specs.Parts.{parts_of}
use Rattle.hex.specs.Hex.{decode_sized}
use Rattle.player_name.specs.Name.{IsName}
use Rattle.lobby_words.specs.declared.players.Player.{Player}

-- the lines of a text
abbrev pub lines_of : List ℕ → List (List ℕ)
lines_of text = parts_of 10 text

-- a line that tells of no player: an empty one, or one that begins with `#`
abbrev pub is_silent : List ℕ → Bool
is_silent [] = true
is_silent (b ∷ bs) = b == 35

-- what a line tells
pub record Entry : Type 0 where
  pub name : List ℕ
  pub is_arbiter : Bool
  pub sum : List ℕ
  pub full_name : List ℕ

abbrev pub role_text : Bool → List ℕ
role_text true = codes "arbiter"
role_text false = codes "player"

-- no control character
abbrev pub is_shown_byte : ℕ → Bool
is_shown_byte b = nat_le 32 b && not (b == 127)

abbrev pub is_from_to : ℕ → ℕ → ℕ → Bool
is_from_to first last c = nat_le first c && nat_le c last

-- The characters that are not seen, or that change how others are, each row from the first to the last: the controls
-- behind DEL; what breaks a line (U+2028, U+2029) or stands for a note beside it (U+FFF9 to U+FFFB); the blank pattern
-- of Braille (U+2800); and all that Unicode has shown as nothing (its property Default_Ignorable_Code_Point), as what
-- joins or parts letters, sets the direction of writing or chooses a form, the fillers of Hangul, and tags.
abbrev pub hidden : List (ℕ × ℕ)
hidden =
    (0x80, 0x9f) ∷ (0xad, 0xad) ∷ (0x34f, 0x34f) ∷ (0x61c, 0x61c) ∷ (0x115f, 0x1160) ∷ (0x17b4, 0x17b5)
    ∷ (0x180b, 0x180f)
    ∷ (0x200b, 0x200f) ∷ (0x2028, 0x202e) ∷ (0x2060, 0x206f) ∷ (0x2800, 0x2800) ∷ (0x3164, 0x3164)
    ∷ (0xfe00, 0xfe0f) ∷ (0xfeff, 0xfeff) ∷ (0xffa0, 0xffa0) ∷ (0xfff0, 0xfffb) ∷ (0x1bca0, 0x1bca3)
    ∷ (0x1d173, 0x1d17a) ∷ (0xe0000, 0xe0fff) ∷ []

abbrev pub is_among : List (ℕ × ℕ) → ℕ → Bool
is_among rows c = list_any (λ row. is_from_to row.0 row.1 c) rows

abbrev pub is_hidden : ℕ → Bool
is_hidden c = is_among hidden c

-- a character that is seen, or the plain space; all other white space (Unicode's property White_Space) looks like it
abbrev pub is_seen : ℕ → Bool
is_seen c = not (is_hidden c) && (c == 32 || not (is_whitespace c))

-- A text in which a space stands only between two other bytes: none at either end, and no two in a row. `is_behind`
-- tells that a space stands before these bytes, or nothing.
abbrev pub is_spaced_from : Bool → List ℕ → Bool
is_spaced_from is_behind [] = not is_behind
is_spaced_from is_behind (b ∷ bs) = not (is_behind && b == 32) && is_spaced_from (b == 32) bs

abbrev pub is_spaced : List ℕ → Bool
is_spaced text = is_spaced_from true text

-- a full name: 1 to 100 bytes, no control and no hidden character, and no white space but one space between two words
abbrev pub is_full_name : List ℕ → Bool
is_full_name text =
    nat_le 1 (length text) && nat_le (length text) 100 && list_all is_shown_byte text && is_spaced text
    && list_all is_seen (chars text)

-- a text without a space
abbrev pub IsWord : List ℕ → Type 0
IsWord text = EachIndex text (λ i. slice_index text i ≢ 32)

-- three words and what is left, with one space between each two
pub record HasFields (line name role sum full_name : List ℕ) : Type 0 where
  pub name_word : IsWord name
  pub role_word : IsWord role
  pub sum_word : IsWord sum
  pub joined : line ≡ name ++ (codes " " ++ (role ++ (codes " " ++ (sum ++ (codes " " ++ full_name)))))

-- three words and what is left tell of a player
pub record TellsOf (first second digits rest : List ℕ) (e : Entry) : Type 0 where
  pub is_name : IsName e.name
  pub name : first ≡ e.name
  pub role : second ≡ role_text e.is_arbiter
  pub sum : decode_sized digits 32 ≡ Ok e.sum
  pub is_full_name : is_full_name e.full_name ≡ true
  pub full_name : rest ≡ e.full_name

-- The line of a player: the name, the role, the token's sum as 64 hex digits, and the full name, with one space between
-- each two.
pub record IsLineOf (line : List ℕ) (e : Entry) : Type 0 where
  pub name : IsName e.name
  pub digits : List ℕ
  pub sum : decode_sized digits 32 ≡ Ok e.sum
  pub full_name : is_full_name e.full_name ≡ true
  pub spelled : line ≡ e.name ++ (codes " " ++ (role_text e.is_arbiter
      ++ (codes " " ++ (digits ++ (codes " " ++ e.full_name)))))

-- the player has this name, or this sum
abbrev pub has_name : List ℕ → Entry → Bool
has_name name one = bytes_eq one.name name

abbrev pub has_sum : List ℕ → Entry → Bool
has_sum sum one = bytes_eq one.sum sum

-- the player's name is this one, or differs from it in small and capital letters alone
abbrev pub is_alike : List ℕ → Entry → Bool
is_alike name one = str_eq_ignore_ascii_case one.name name

-- two players whose names differ also with small letters alone, and who have not one token
pub record AreTwo (a b : Entry) : Type 0 where
  pub names : str_to_ascii_lowercase a.name ≢ str_to_ascii_lowercase b.name
  pub sums : a.sum ≢ b.sum

-- the lines that are not silent
abbrev pub spoken : List (List ℕ) → List (List ℕ)
spoken lines = filter (λ line. not (is_silent line)) lines

-- the lines tell of these players, in this order, and of no other
pub record AreLinesOf (lines : List (List ℕ)) (entries : List Entry) : Type 0 where
  pub told : AllZip IsLineOf (spoken lines) entries
  pub apart : AllPairs AreTwo entries

-- the text is a file of these players
abbrev pub IsFileOf : List ℕ → List Entry → Type 0
IsFileOf text entries = AreLinesOf (lines_of text) entries

abbrev pub entry_of : Player → Entry
entry_of player = record {
  name = player.name;
  is_arbiter = player.is_arbiter;
  sum = player.sum;
  full_name = string_bytes player.full_name;
}

abbrev pub entries_of : List Player → List Entry
entries_of players = map entry_of players

-- a text that ends with a line feed
abbrev pub ends_line : List ℕ → Bool
ends_line text = slice_index text (length text - 1) == 10
