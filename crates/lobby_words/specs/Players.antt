-- Whom a token shows, and how players are told.
use Rattle.std.specs.Prelude.{ℕ, ◌≡◌, Bool, true, false, ◌&&◌, ◌||◌, ◌==◌, nat_le, List, [], ◌∷◌, length, ◌++◌, codes}
use Rattle.std.specs.Prelude.{decimal, map, filter, Option, Some, None, find, option_map, if◌then◌else◌}
use Rattle.std.specs.List.{AllZip, flat_map, list_any, list_all}
use Rattle.std.specs.String.{string_bytes}
use Rattle.std.specs.Str.{bytes_eq, str_eq_ignore_ascii_case}
use Rattle.sha2.specs.Sha256.{sha256}
use Rattle.lobby_words.specs.declared.players.Player.{Player}
use Rattle.lobby_words.specs.declared.planning.Identity.{Identity}
use Rattle.lobby_words.specs.declared.planning.Order.{Order}
use Rattle.lobby_words.specs.Words.{rest_of, as_name, full_said, sort_of, is_player_sort}
use Rattle.lobby_words.specs.Plans.{adds}
use Rattle.lobby_words.specs.Answers.{ended}

abbrev pub identity_of : Player → Identity
identity_of player = record { name = player.name; is_arbiter = player.is_arbiter }

abbrev pub has_sum : List ℕ → Player → Bool
has_sum sum player = bytes_eq player.sum sum

-- who was found before, and else this player, if he is one
abbrev pub or_holder : Option Identity → Bool → Identity → Option Identity
or_holder (Some before) is_holder who = Some before
or_holder None is_holder who = if is_holder then Some who else None

-- one of the digits 0 to 9 and a to f
abbrev pub is_token_digit : ℕ → Bool
is_token_digit b = (nat_le 48 b && nat_le b 57) || (nat_le 97 b && nat_le b 102)

-- a token: 32 of these digits
abbrev pub is_token : List ℕ → Bool
is_token text = length text == 32 && list_all is_token_digit text

-- the first player who has this sum
abbrev pub holder_of_sum : List Player → List ℕ → Option Identity
holder_of_sum players sum = option_map identity_of (find (has_sum sum) players)

-- The first player whose sum is that of the token. What is no token is nobody's, whatever sums the players have.
unfoldable pub holder_of : List Player → List ℕ → Option Identity
holder_of players token = if is_token token then holder_of_sum players (sha256 token) else None

-- For whom a connection acts when the players are others: for the player of its name, where that one's sum is the one
-- that this name had; else for nobody.
abbrev pub first_named : List Player → List ℕ → Option Player
first_named players name = find (λ player. bytes_eq player.name name) players

abbrev pub goes_on : Option Player → Option Player → Option Identity
goes_on None after = None
goes_on (Some before) None = None
goes_on (Some before) (Some after) = if bytes_eq before.sum after.sum then Some (identity_of after) else None

abbrev pub renewed : List Player → List Player → Option Identity → Option Identity
renewed old new None = None
renewed old new (Some who) = goes_on (first_named old who.name) (first_named new who.name)

-- this name, where a player has it
abbrev pub known_name : List Player → List ℕ → Option (List ℕ)
known_name players name = if list_any (λ player. bytes_eq player.name name) players then Some name else None

-- a player as he is told: name, role and full name
abbrev pub role_text : Bool → List ℕ
role_text is_arbiter = if is_arbiter then codes " arbiter " else codes " player "

abbrev pub player_row : List ℕ → Bool → List ℕ → List ℕ
player_row name is_arbiter full_name = name ++ role_text is_arbiter ++ full_name ++ codes "\n"

abbrev pub row_of : Player → List ℕ
row_of player = player_row player.name player.is_arbiter (string_bytes player.full_name)

-- the full name of the first player of this name
abbrev pub full_name_or_none : Option Player → List ℕ
full_name_or_none None = []
full_name_or_none (Some player) = string_bytes player.full_name

abbrev pub full_name_of : List Player → List ℕ → List ℕ
full_name_of players name = full_name_or_none (find (λ player. bytes_eq player.name name) players)

-- the answer to a `login` of this player, and that to `players`
abbrev pub login_text : List Player → Identity → List ℕ
login_text players who = codes "ok login " ++ player_row who.name who.is_arbiter (full_name_of players who.name)

abbrev pub players_text : List Player → List ℕ
players_text players = codes "ok players " ++ decimal (length players) ++ codes "\n" ++ flat_map row_of players

-- whether it is the player of this name
abbrev pub is_named : Option Identity → List ℕ → Bool
is_named None name = false
is_named (Some who) name = bytes_eq who.name name

-- whether one of these connections acts for him, by for whom each acts
abbrev pub is_present : (ℕ → Option Identity) → List ℕ → List ℕ → Bool
is_present who connections name = list_any (λ c. is_named (who c) name) connections

-- the names of the players of whom that is so, in the list's order
abbrev pub present_names : (ℕ → Option Identity) → List ℕ → List Player → List (List ℕ)
present_names who connections players =
    map (λ (player : Player). player.name)
    (filter (λ (player : Player). is_present who connections player.name) players)

-- the answer to `who`, which tells whether entries are paused, and these names
abbrev pub who_front : Bool → List ℕ
who_front true = codes "ok who paused "
who_front false = codes "ok who open "

abbrev pub who_text : Bool → List (List ℕ) → List ℕ
who_text is_paused names = who_front is_paused ++ decimal (length names) ++ codes "\n" ++ flat_map ended names

-- whether who shows this token is the player of this name
abbrev pub is_token_of : List Player → List ℕ → List ℕ → Bool
is_token_of players token name = is_named (holder_of players token) name

-- the sum that a player has once the player of this name has this one
abbrev pub sum_given : List ℕ → List ℕ → Player → List ℕ
sum_given name sum player = if bytes_eq player.name name then sum else player.sum

-- the same player, with this sum
pub record IsWithSum (sum : List ℕ) (old new : Player) : Type 0 where
  pub name : new.name ≡ old.name
  pub full_name : string_bytes new.full_name ≡ string_bytes old.full_name
  pub is_arbiter : new.is_arbiter ≡ old.is_arbiter
  pub sum_is : new.sum ≡ sum

-- The player of this name has this token in the place of the one that he had, and nobody had it before. All else of
-- him, and every other player, is as it was, in the same order.
pub record IsRelinked (name token : List ℕ) (before after : List Player) : Type 0 where
  pub each : AllZip (λ (old new : Player). IsWithSum (sum_given name (sha256 token) old) old new) before after
  pub fresh : list_any (has_sum (sha256 token)) before ≡ false
  pub holds : is_token_of after token name ≡ true

-- a player has this name, or one that differs in small and capital letters alone
abbrev pub is_named_like : List ℕ → Player → Bool
is_named_like name player = str_eq_ignore_ascii_case player.name name

-- The players are those before, each as he was, and behind them one more: of this name, which nobody had, nor one like
-- it; of this full name; no arbiter; and with this token, which nobody had.
pub record IsJoined (name full_name token : List ℕ) (before after : List Player) : Type 0 where
  pub others : List Player
  pub newcomer : Player
  pub behind : after ≡ others ++ newcomer ∷ []
  pub each : AllZip (λ (old new : Player). IsWithSum old.sum old new) before others
  pub named : newcomer.name ≡ name
  pub full : string_bytes newcomer.full_name ≡ full_name
  pub role : newcomer.is_arbiter ≡ false
  pub sum_is : newcomer.sum ≡ sha256 token
  pub alone : list_any (is_named_like name) before ≡ false
  pub fresh : list_any (has_sum (sha256 token)) before ≡ false
  pub holds : is_token_of after token name ≡ true

-- The change of the players that a message asks for has been made, with this token: there is one more, of the name and
-- the full name of the message, or the one whom the message names has the token.
abbrev pub IsChangedIf : Bool → List ℕ → List ℕ → List Player → List Player → Type 0
IsChangedIf true text token before after = IsJoined (as_name text) (full_said text) token before after
IsChangedIf false text token before after = IsRelinked (rest_of text) token before after

abbrev pub IsChanged : List ℕ → List ℕ → List Player → List Player → Type 0
IsChanged text token before after = IsChangedIf (is_player_sort (sort_of text)) text token before after

-- an order has been carried out, with this full name of who is added by it
abbrev pub IsCarriedIf : Bool → List ℕ → List ℕ → List ℕ → List Player → List Player → Type 0
IsCarriedIf true name full_name token before after = IsJoined name full_name token before after
IsCarriedIf false name full_name token before after = IsRelinked name token before after

abbrev pub IsCarriedOut : Order → List ℕ → List ℕ → List Player → List Player → Type 0
IsCarriedOut order full_name token before after =
    IsCarriedIf (adds order.change) order.name full_name token before after

-- two players who differ in no more than their full names
pub record IsAlike (a b : Player) : Type 0 where
  pub name : b.name ≡ a.name
  pub is_arbiter : b.is_arbiter ≡ a.is_arbiter
  pub sum_is : b.sum ≡ a.sum

abbrev pub AreAlike : List Player → List Player → Type 0
AreAlike players others = AllZip IsAlike players others
