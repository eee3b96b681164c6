-- The games that are kept for one player: a pairing has opened them, and nobody has joined them yet.
use Rattle.std.specs.Prelude.{ℕ, ◌≡◌, Bool, true, false, ◌&&◌, ◌==◌, not, List, [], ◌∷◌, ◌++◌, codes, filter, Option}
use Rattle.std.specs.Prelude.{None, Some, if◌then◌else◌}
use Rattle.std.specs.List.{list_any}
use Rattle.std.specs.Str.{bytes_eq}
use Rattle.lobby_words.specs.declared.listing.Seat.{Seat}
use Rattle.lobby_words.specs.declared.listing.Stage.TheVariants as stages
use Rattle.lobby_words.specs.declared.refusals.Refusal.{Refusal}
use Rattle.lobby_words.specs.declared.refusals.Refusal.TheVariants as refusals
use Rattle.lobby_words.specs.Words.{word_of, rest_of, u32_in}
use Rattle.lobby_words.specs.Waiting.{ends_wait, is_stage}
use Rattle.lobby_table.specs.declared.pairings.Pairing.{Pairing}

-- whether a game waits for a second player; whether it is kept for another than this player
abbrev pub waits : List Seat → ℕ → Bool
waits seats game = list_any (λ (s : Seat). s.game == game && is_stage s.stage stages.Waits) seats

abbrev pub is_other : ℕ → List ℕ → Pairing → Bool
is_other game name p = p.game == game && not (bytes_eq p.black name)

abbrev pub is_kept : List Pairing → ℕ → List ℕ → Bool
is_kept pairings game name = list_any (is_other game name) pairings

-- A game is kept for Black once the server has answered, by its number, the opening of a pairing ..
abbrev pub others : ℕ → List Pairing → List Pairing
others game pairings = filter (λ (p : Pairing). not (p.game == game)) pairings

abbrev pub pairings_opened : List ℕ → Option ℕ → List Pairing → List Pairing
pairings_opened black None pairings = pairings
pairings_opened black (Some game) pairings = others game pairings ++ record { game = game; black = black } ∷ []

-- .. and until it has answered so the join, or the drop, of the game.
abbrev pub pairings_told : List ℕ → Option ℕ → List Pairing → List Pairing
pairings_told text None pairings = pairings
pairings_told text (Some game) pairings = if ends_wait text then others game pairings else pairings

-- why a player may not play in one more: as many of his go on as may, or are over and still on the table
abbrev pub game_bar : Bool → Bool → Option Refusal
game_bar is_busy is_spent =
    if is_busy then Some refusals.TooManyGames else (if is_spent then Some refusals.TooManyOver else None)

-- Why he may not join a game that a message names: it names none; or no such game was told as one that waits, or it is
-- kept for another; or he may not play in one more.
abbrev pub join_bar : List Seat → List Pairing → Option Refusal → List ℕ → Option ℕ → Option Refusal
join_bar seats pairings bar name None = Some refusals.BadLine
join_bar seats pairings bar name (Some game) =
    if waits seats game && not (is_kept pairings game name) then bar else Some refusals.NotOffered

-- Why he may not open one: as many of his wait as may; or he may not play in one more; or the last places are for
-- others.
abbrev pub open_bar : Bool → Bool → Option Refusal → Option Refusal
open_bar is_crowded is_full (Some bar) = if is_crowded then Some refusals.TooManyOpen else Some bar
open_bar is_crowded is_full None =
    if is_crowded then Some refusals.TooManyOpen else (if is_full then Some refusals.NearlyFull else None)

-- the game that a line joins
abbrev pub game_joined : List ℕ → Option ℕ
game_joined line = if bytes_eq (word_of line) (codes "join") then u32_in (word_of (rest_of line)) else None

-- A line, under the name that holds: where it joins a game, somebody's name holds, and the game is not kept for
-- another.
abbrev pub IsFree : List Pairing → Option (List ℕ) → Option ℕ → Type 0
IsFree pairings said None = Unit {0}
IsFree pairings said (Some game) = (name : List ℕ) × (said ≡ Some name) × (is_kept pairings game name ≡ false)

-- a line joins no game but one that was told as waiting
abbrev pub IsOffered : List Seat → Option ℕ → Type 0
IsOffered seats None = Unit {0}
IsOffered seats (Some game) = waits seats game ≡ true
