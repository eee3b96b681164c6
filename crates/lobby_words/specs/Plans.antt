-- What is done about a message.
use Rattle.std.specs.Prelude.{ℕ, Bool, true, false, ◌&&◌, ◌++◌, not, List, codes, Option, None, Some, if◌then◌else◌}
use Rattle.lobby_words.specs.declared.words.Sort.{Sort}
use Rattle.lobby_words.specs.declared.words.Sort.TheVariants as sorts
use Rattle.lobby_words.specs.Words.{is_login_sort}
use Rattle.lobby_words.specs.declared.planning.Identity.{Identity}
use Rattle.lobby_words.specs.declared.planning.Order.{Order}
use Rattle.lobby_words.specs.declared.planning.Change.{Change}
use Rattle.lobby_words.specs.declared.planning.Change.TheVariants as changes
use Rattle.lobby_words.specs.declared.planning.Newcomer.{Newcomer}
use Rattle.lobby_words.specs.declared.planning.Newcomer.TheVariants as newcomers
use Rattle.lobby_words.specs.declared.planning.Accord.{Accord}
use Rattle.lobby_words.specs.declared.planning.Accord.TheVariants as accords
use Rattle.lobby_words.specs.declared.refusals.Refusal.{Refusal}
use Rattle.lobby_words.specs.declared.refusals.Refusal.TheVariants as refusals
use Rattle.lobby_words.specs.declared.planning.Plan.{Plan}
use Rattle.lobby_words.specs.declared.planning.Plan.TheVariants as plans
use Rattle.lobby_words.specs.declared.planning.Standing.{Standing}

-- the line that says why a message is refused
abbrev pub refusal_text : Refusal → List ℕ
refusal_text refusals.BadLine = codes "no 1 BadLine\n"
refusal_text refusals.NoToken = codes "no 31 NoToken\n"
refusal_text refusals.BadToken = codes "no 32 BadToken\n"
refusal_text refusals.NotArbiter = codes "no 33 NotArbiter\n"
refusal_text refusals.TooManyOpen = codes "no 35 TooManyOpen\n"
refusal_text refusals.NoServer = codes "no 36 NoServer\n"
refusal_text refusals.TooManyWatched = codes "no 37 TooManyWatched\n"
refusal_text refusals.NoPlayer = codes "no 38 NoPlayer\n"
refusal_text refusals.EntriesPaused = codes "no 39 EntriesPaused\n"
refusal_text refusals.NotWritten = codes "no 40 NotWritten\n"
refusal_text refusals.NotWaiting = codes "no 41 NotWaiting\n"
refusal_text refusals.NotOffered = codes "no 42 NotOffered\n"
refusal_text refusals.TooManyGames = codes "no 43 TooManyGames\n"
refusal_text refusals.NearlyFull = codes "no 44 NearlyFull\n"
refusal_text refusals.TooManyOver = codes "no 45 TooManyOver\n"
refusal_text refusals.ClocksStopped = codes "no 46 ClocksStopped\n"
refusal_text refusals.NoClocks = codes "no 47 NoClocks\n"
refusal_text refusals.NotDecided = codes "no 48 NotDecided\n"
refusal_text refusals.BadName = codes "no 49 BadName\n"
refusal_text refusals.BadFullName = codes "no 51 BadFullName\n"

-- the line that says that this player has the name of who is to be added, or one that differs in small and capital
-- letters alone
abbrev pub taken_text : List ℕ → List ℕ
taken_text name = codes "no 50 NameTaken " ++ name ++ codes "\n"

-- what asks for the server
abbrev pub asked : Standing → Plan → Plan
asked s plan = if s.is_here then plan else plans.Refuse refusals.NoServer

-- An act under a name: not where the clocks or the games that are known bar it.
abbrev pub barred : Option Refusal → Plan → Plan
barred None plan = plan
barred (Some refusal) plan = plans.Refuse refusal

abbrev pub entered_plan : Standing → Plan → Plan
entered_plan s plan = asked s (barred s.bar plan)

-- An act of who acts for this player: no game is opened while entries are paused, but by an arbiter.
abbrev pub act_plan : Standing → Identity → Plan
act_plan s who =
    if s.is_paused && not who.is_arbiter then plans.Refuse refusals.EntriesPaused else entered_plan s (plans.Act who)

-- an act of an arbiter under the name of another: not where no player has it
abbrev pub named_plan : Standing → Identity → Option (List ℕ) → Plan
named_plan s who None = plans.Refuse refusals.NoPlayer
named_plan s who (Some name) = entered_plan s (plans.ActAs who name)

-- an act under the name of another: not of who is no arbiter
abbrev pub as_plan : Standing → Identity → Plan
as_plan s who = if who.is_arbiter then named_plan s who s.named else plans.Refuse refusals.NotArbiter

-- a pairing: not where one of the two names is no player's
abbrev pub black_plan : Standing → Identity → List ℕ → Option (List ℕ) → Plan
black_plan s who white None = plans.Refuse refusals.NoPlayer
black_plan s who white (Some black) = asked s (plans.Pair who white black)

abbrev pub white_plan : Standing → Identity → Option (List ℕ) → Plan
white_plan s who None = plans.Refuse refusals.NoPlayer
white_plan s who (Some white) = black_plan s who white s.black

-- A pairing of who is no arbiter: one that the other of the two has offered him is made, as an arbiter's, but not while
-- entries are paused, and not where the games of the two bar it; another one is what he offers from now on.
abbrev pub agreed_plan : Standing → Identity → Plan
agreed_plan s who =
    if s.is_paused then plans.Refuse refusals.EntriesPaused else barred s.pair_bar (white_plan s who s.named)

abbrev pub offered_plan : Standing → Identity → Accord → Plan
offered_plan s who accords.Nothing = plans.Refuse refusals.NotArbiter
offered_plan s who accords.Offered = plans.Offer who
offered_plan s who accords.Agreed = agreed_plan s who

abbrev pub pair_plan : Standing → Identity → Plan
pair_plan s who = if who.is_arbiter then white_plan s who s.named else offered_plan s who s.accord

-- what an arbiter alone may ask for
abbrev pub arbiter_plan : Identity → Plan → Plan
arbiter_plan who plan = if who.is_arbiter then plan else plans.Refuse refusals.NotArbiter

-- the link of a player is changed, or closed: not where no player has the name
abbrev pub order_plan : Change → Option (List ℕ) → Plan
order_plan change None = plans.Refuse refusals.NoPlayer
order_plan change (Some name) = plans.Order (record { name = name; change = change })

-- a player is added: not where the name or the full name is none, or a player has that name or one like it
abbrev pub newcomer_plan : Newcomer → Plan
newcomer_plan newcomers.BadName = plans.Refuse refusals.BadName
newcomer_plan (newcomers.Taken name) = plans.Taken name
newcomer_plan newcomers.BadFullName = plans.Refuse refusals.BadFullName
newcomer_plan (newcomers.New name) = plans.Order (record { name = name; change = changes.NewPlayer })

-- whether a change leaves nobody a link, and whether it adds a player
abbrev pub closes : Change → Bool
closes changes.NoLink = true
closes _ = false

abbrev pub adds : Change → Bool
adds changes.NewPlayer = true
adds _ = false

-- what a plan has done in the players' file
abbrev pub order_of : Plan → Option Order
order_of (plans.Order order) = Some order
order_of _ = None

-- a token is shown, and this player has it
abbrev pub login_plan : Option Identity → Plan
login_plan None = plans.Refuse refusals.BadToken
login_plan (Some who) = plans.Login who

-- A word with the number of a game. Whether who asks for a drop may drop the game, the server's answer to `show` tells.
abbrev pub game_plan : Sort → Standing → Identity → ℕ → Plan
game_plan sorts.Watch s who game =
    if s.is_full then asked s (plans.Refuse refusals.TooManyWatched) else asked s (plans.Watch game)
game_plan sorts.Line s who game = asked s (plans.Line game)
game_plan sorts.Drop s who game = asked s (plans.Drop who game)
game_plan sorts.Room s who game = plans.Room game s.at
game_plan _ s who game = plans.Leave game

abbrev pub numbered_plan : Sort → Standing → Identity → Option ℕ → Plan
numbered_plan sort s who None = plans.Refuse refusals.BadLine
numbered_plan sort s who (Some game) = game_plan sort s who game

-- a message of this sort of who acts for this player, behind whose word this number stands, if any does
abbrev pub sort_plan : Sort → Standing → Identity → Option ℕ → Plan
sort_plan sorts.Read s who game = asked s plans.Read
sort_plan sorts.Act s who game = act_plan s who
sort_plan sorts.As s who game = as_plan s who
sort_plan sorts.Pair s who game = pair_plan s who
sort_plan sorts.Unpair s who game = plans.Unpair who
sort_plan sorts.Offers s who game = plans.Offers who s.at
sort_plan sorts.Drop s who game = numbered_plan sorts.Drop s who game
sort_plan sorts.Login s who game = login_plan s.holder
sort_plan sorts.Players s who game = plans.Players
sort_plan sorts.Who s who game = plans.Who
sort_plan sorts.Pause s who game = arbiter_plan who plans.Pause
sort_plan sorts.Resume s who game = arbiter_plan who plans.Resume
sort_plan (sorts.Call call) s who game = arbiter_plan who (barred s.bar (plans.Call call))
sort_plan sorts.Link s who game = arbiter_plan who (order_plan changes.NewLink s.linked)
sort_plan sorts.Close s who game = arbiter_plan who (order_plan changes.NoLink s.linked)
sort_plan sorts.Player s who game = arbiter_plan who (newcomer_plan s.newcomer)
sort_plan sorts.Lobby s who game = asked s plans.Lobby
sort_plan sorts.LeaveLobby s who game = plans.LeaveLobby
sort_plan sorts.Name s who game = plans.Refuse refusals.BadLine
sort_plan sorts.Nothing s who game = plans.Refuse refusals.BadLine
sort_plan sorts.Watch s who game = numbered_plan sorts.Watch s who game
sort_plan sorts.Leave s who game = numbered_plan sorts.Leave s who game
sort_plan sorts.Line s who game = numbered_plan sorts.Line s who game
sort_plan sorts.Room s who game = numbered_plan sorts.Room s who game
sort_plan sorts.Moves s who game = plans.Moves

-- A message of who acts for nobody: a token may be shown, and nothing else may be said.
abbrev pub stranger_plan : Bool → Standing → Plan
stranger_plan true s = login_plan s.holder
stranger_plan false s = plans.Refuse refusals.NoToken

abbrev pub who_plan : Option Identity → Sort → Standing → Option ℕ → Plan
who_plan None sort s game = stranger_plan (is_login_sort sort) s
who_plan (Some who) sort s game = sort_plan sort s who game

-- a message, and whether it may be a line
abbrev pub plan_of : Bool → Sort → Standing → Option ℕ → Plan
plan_of true sort s game = who_plan s.who sort s game
plan_of false sort s game = plans.Refuse refusals.BadLine
