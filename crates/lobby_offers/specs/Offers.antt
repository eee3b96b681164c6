-- Which pairings players have offered each other, and on which two agree.
use Rattle.std.specs.Prelude.{ℕ, Bool, ◌&&◌, ◌||◌, ◌-◌, not, nat_le, List, [], ◌∷◌, ◌++◌, length, codes, decimal}
use Rattle.std.specs.Prelude.{filter, Option, None, Some, is_some, if◌then◌else◌}
use Rattle.std.specs.List.{list_any, flat_map}
use Rattle.std.specs.Str.{bytes_eq}
use Rattle.std.specs.String.{string_bytes}
use Rattle.lobby_words.specs.declared.planning.Accord.{Accord}
use Rattle.lobby_words.specs.declared.planning.Accord.TheVariants as accords
use Rattle.lobby_words.specs.declared.planning.Identity.{Identity}
use Rattle.lobby_words.specs.declared.players.Player.{Player}
use Rattle.lobby_words.specs.Words.{rest_of, as_name, black_name, is_message, sort_of, is_pair_sort, is_unpair_sort}
use Rattle.lobby_words.specs.Players.{known_name, is_named}
use Rattle.lobby_offers.specs.declared.offer.Offer.{Offer}

-- A pairing that a player has offered: the connection by which he said it, his name, the message, and the moment.
pub record Offered : Type 0 where
  pub from : ℕ
  pub by : List ℕ
  pub text : List ℕ
  pub at : ℕ

abbrev pub offered : Offer → Offered
offered o = record { from = o.from; by = o.by; text = string_bytes o.text; at = o.at }

-- whether a player is one of the two in a message `pair WHITE BLACK TIMES`, and then the other one
abbrev pub is_party : List ℕ → List ℕ → Bool
is_party name text = bytes_eq (as_name text) name || bytes_eq (black_name text) name

abbrev pub other_party : List ℕ → List ℕ → List ℕ
other_party name text = if bytes_eq (as_name text) name then black_name text else as_name text

-- An offer stands for 10 minutes, as long as the connection by which it was said acts for the player who has said it.
abbrev pub stands : (ℕ → Option Identity) → ℕ → Offered → Bool
stands acts_for at o = is_named (acts_for o.from) o.by && nat_le (at - o.at) 600000

-- Two agree on a pairing where one says the very message by which the other has offered it, and that stands.
abbrev pub is_answered : (ℕ → Option Identity) → List ℕ → List ℕ → ℕ → Offered → Bool
is_answered acts_for other text at o = bytes_eq o.text text && (bytes_eq o.by other && stands acts_for at o)

abbrev pub is_agreed : (ℕ → Option Identity) → List ℕ → List ℕ → ℕ → List Offered → Bool
is_agreed acts_for other text at offers = list_any (is_answered acts_for other text at) offers

-- A player who is no arbiter offers a pairing in which he is one of two players.
abbrev pub is_pairing : List ℕ → Bool
is_pairing text = is_pair_sort (sort_of text)

abbrev pub may_offer : List Player → Identity → List ℕ → Bool
may_offer players who text =
    is_message text && is_pairing text && not who.is_arbiter && is_party who.name text
    && is_some (known_name players (as_name text)) && is_some (known_name players (black_name text))

-- what a message is between its player, for whom its connection acts, and another
abbrev pub accord_by : List Player → (ℕ → Option Identity) → Option Identity → List ℕ → ℕ → List Offered → Accord
accord_by players acts_for None text at offers = accords.Nothing
accord_by players acts_for (Some who) text at offers =
    if may_offer players who text
    then (if is_agreed acts_for (other_party who.name text) text at offers then accords.Agreed else accords.Offered)
    else accords.Nothing

abbrev pub accord_of : List Player → (ℕ → Option Identity) → ℕ → List ℕ → ℕ → List Offered → Accord
accord_of players acts_for c text at offers = accord_by players acts_for (acts_for c) text at offers

-- the offers of all but this player; those in which not both of these two are
abbrev pub but_by : List ℕ → List Offered → List Offered
but_by name offers = filter (λ (o : Offered). not (bytes_eq o.by name)) offers

abbrev pub is_between : List ℕ → List ℕ → Offered → Bool
is_between one other o = is_party one o.text && is_party other o.text

abbrev pub parted : List ℕ → List ℕ → List Offered → List Offered
parted one other offers = filter (λ (o : Offered). not (is_between one other o)) offers

-- A player has one offer: the one that he said last. Where two agree neither has one any more, whatever comes of it.
abbrev pub accord_noted : Accord → List ℕ → ℕ → List ℕ → ℕ → List Offered → List Offered
accord_noted accords.Nothing by c text at offers = offers
accord_noted accords.Offered by c text at offers =
    but_by by offers ++ record { from = c; by = by; text = text; at = at } ∷ []
accord_noted accords.Agreed by c text at offers = but_by (as_name text) (but_by (black_name text) offers)

-- `unpair NAME` takes back what its player offers NAME, and declines what NAME offers him.
abbrev pub ends_offers : List ℕ → Bool
ends_offers text = is_message text && is_unpair_sort (sort_of text)

-- An arbiter's pairing ends what its two players offer, whatever comes of it.
abbrev pub pairs_at_once : Identity → List ℕ → Bool
pairs_at_once who text = is_message text && is_pairing text && who.is_arbiter

-- the offers after a message of a connection that acts for this player, which is this between him and another
abbrev pub offers_said : Accord → Option Identity → ℕ → List ℕ → ℕ → List Offered → List Offered
offers_said accord None c text at offers = offers
offers_said accord (Some who) c text at offers =
    if ends_offers text then parted who.name (rest_of text) offers
    else (if pairs_at_once who text then but_by (as_name text) (but_by (black_name text) offers)
    else accord_noted accord who.name c text at offers)

-- The answer to `offers`: those that stand in which the player is one of the two, the oldest first, each with who
-- offers it and what stands behind `pair`.
abbrev pub is_shown : (ℕ → Option Identity) → List ℕ → ℕ → Offered → Bool
is_shown acts_for name at o = is_party name o.text && stands acts_for at o

abbrev pub offer_row : Offered → List ℕ
offer_row o = o.by ++ codes " " ++ rest_of o.text ++ codes "\n"

abbrev pub rows_text : List Offered → List ℕ
rows_text offers = codes "ok offers " ++ decimal (length offers) ++ codes "\n" ++ flat_map offer_row offers

abbrev pub offers_text : (ℕ → Option Identity) → List ℕ → ℕ → List Offered → List ℕ
offers_text acts_for name at offers = rows_text (filter (is_shown acts_for name at) offers)
