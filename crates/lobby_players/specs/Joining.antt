-- A player who walks in is put behind all others.
use Rattle.std.specs.Prelude.{ℕ, ◌≡◌, Bool, true, false, ◌&&◌, nat_le, List, length, Option, Some, None, find}
use Rattle.std.specs.Prelude.{if◌then◌else◌}
use Rattle.std.specs.List.{list_any, list_all}
use Rattle.hex.specs.Hex.{encode_lower}
use Rattle.sha2.specs.Sha256.{sha256}
use Rattle.player_name.specs.Name.{is_name_byte}
use Rattle.lobby_words.specs.declared.players.Player.{Player}
use Rattle.lobby_words.specs.declared.planning.Order.{Order}
use Rattle.lobby_words.specs.declared.planning.Newcomer.{Newcomer}
use Rattle.lobby_words.specs.declared.planning.Newcomer.TheVariants as newcomers
use Rattle.lobby_words.specs.Words.{as_name, full_said, sort_of, is_player_sort}
use Rattle.lobby_words.specs.Players.{is_named_like}
use Rattle.lobby_words.specs.Plans.{adds}
use Rattle.lobby_players.specs.declared.faults.JoinFault.{JoinFault}
use Rattle.lobby_players.specs.declared.faults.JoinFault.TheVariants as faults
use Rattle.lobby_players.specs.declared.faults.OrderFault.{OrderFault}
use Rattle.lobby_players.specs.declared.faults.OrderFault.TheVariants as order_faults
use Rattle.lobby_players.specs.File.{Entry, IsFileOf, entries_of, has_name, is_full_name}
use Rattle.lobby_players.specs.Adding.{IsAddFault, added_text}
use Rattle.lobby_players.specs.Relinking.{IsFileRelinked, IsOfOthers, IsLinkFault}

-- 1 to 16 letters, digits and `_`
abbrev pub is_name : List ℕ → Bool
is_name text = nat_le 1 (length text) && nat_le (length text) 16 && list_all is_name_byte text

-- Whether this name and full name may be added, by the first player who has the name or one like it.
abbrev pub newcomer_by : Option Player → Bool → List ℕ → Newcomer
newcomer_by (Some player) full name = newcomers.Taken player.name
newcomer_by None true name = newcomers.New name
newcomer_by None false name = newcomers.BadFullName

-- whether whom a message `player NAME FULL NAME` names may be added; of another message nobody may
abbrev pub newcomer_of : List Player → List ℕ → Newcomer
newcomer_of players text =
    if is_name (as_name text) then newcomer_by (find (is_named_like (as_name text)) players)
    (is_full_name (full_said text)) (as_name text)
    else newcomers.BadName

abbrev pub newcomer_said : List Player → List ℕ → Newcomer
newcomer_said players text = if is_player_sort (sort_of text) then newcomer_of players text else newcomers.BadName

-- the player of this name and full name, with the sum of this token
abbrev pub entry_joined : List ℕ → List ℕ → List ℕ → Entry
entry_joined name full_name token = record {
  name = name;
  is_arbiter = false;
  sum = sha256 (encode_lower token);
  full_name = full_name;
}

-- The texts are files of these players, and the new one is the old one with a line behind all others.
pub record IsFileJoined (e : Entry) (text new : List ℕ) (before after : List Player) : Type 0 where
  pub old_file : IsFileOf text (entries_of before)
  pub new_file : IsFileOf new (entries_of after)
  pub written : new ≡ added_text text e

-- a player of the file has the name
pub record IsSomebody (name text : List ℕ) : Type 0 where
  pub entries : List Entry
  pub before : IsFileOf text entries
  pub has : list_any (has_name name) entries ≡ true

abbrev pub IsJoinFault : List Player → Entry → List ℕ → JoinFault → Type 0
IsJoinFault known e text (faults.Add fault) = IsAddFault text e fault
IsJoinFault known e text faults.OtherPlayers = IsOfOthers known text
IsJoinFault known e text faults.NameTaken = IsSomebody e.name text
IsJoinFault known e text faults.NoMemory = Unit {0}

-- An order has been carried out in the file: the new text is the old one with the line of who is added behind all, with
-- this full name and the sum of this token; or it is the old one but for the line of the player of the order.
abbrev pub IsFileCarriedIf : Bool → Entry → (text new : List ℕ) → (before after : List Player) → Type 0
IsFileCarriedIf true e text new before after = IsFileJoined e text new before after
IsFileCarriedIf false e text new before after = IsFileRelinked e.name text new before after

abbrev pub IsFileCarriedOut : Order → (full_name token text new : List ℕ) → (before after : List Player) → Type 0
IsFileCarriedOut order full_name token text new before after =
    IsFileCarriedIf (adds order.change) (entry_joined order.name full_name token) text new before after

-- an order was not carried out, with this token and this full name of who is added
abbrev pub IsOrderFault : List Player → Order → List ℕ → List ℕ → List ℕ → OrderFault → Type 0
IsOrderFault known order full_name token text (order_faults.Link fault) =
    IsLinkFault known order.name (encode_lower token) text fault
IsOrderFault known order full_name token text (order_faults.Join fault) =
    IsJoinFault known (entry_joined order.name full_name token) text fault
