-- What connections are told.
use Rattle.std.specs.Prelude.{ℕ, ◌≡◌, ◌⊎◌, Bool, true, false, ◌&&◌, ◌||◌, ◌==◌, not, List, [], ◌∷◌, ◌++◌, codes}
use Rattle.std.specs.Prelude.{decimal, map, Option, None, Some, is_some, length, nat_le, if◌then◌else◌}
use Rattle.std.specs.List.{list_any}
use Rattle.lobby_words.specs.declared.listing.Seat.{Seat}
use Rattle.lobby_table.specs.declared.watching.Watch.{Watch}
use Rattle.lobby_table.specs.declared.refusals.RefusedActs.{RefusedActs}
use Rattle.lobby_table.specs.declared.pairings.Pairing.{Pairing}
use Rattle.lobby_desk.specs.declared.telling.Kind.{Kind}
use Rattle.lobby_desk.specs.declared.telling.Kind.TheVariants as kinds
use Rattle.lobby_words.specs.declared.words.Sort.TheVariants as sorts
use Rattle.lobby_words.specs.declared.planning.Identity.{Identity}
use Rattle.lobby_words.specs.declared.words.Call.{Call}
use Rattle.lobby_words.specs.declared.words.Call.TheVariants as calls
use Rattle.lobby_words.specs.Words.{rest_of, is_pair, is_message, sort_of, is_close_sort, is_leave_sort}
use Rattle.lobby_words.specs.Words.{is_leave_lobby_sort, u32_in, as_line}
use Rattle.lobby_words.specs.declared.refusals.Refusal.TheVariants as refusals
use Rattle.lobby_words.specs.Plans.{refusal_text}
use Rattle.lobby_words.specs.Naming.{takes_name}
use Rattle.lobby_words.specs.Answers.{left_after, is_whole, answer, is_shown, is_position, is_pgn, is_over, act_game}
use Rattle.lobby_words.specs.Answers.{tells_end, lone_player}
use Rattle.lobby_table.specs.Watching.{at_table, watch_if, sit_if, unwatched, none_watched, risen, followers}
use Rattle.lobby_table.specs.Watching.{watches_kept, table_kept}
use Rattle.lobby_table.specs.Visitors.{acting}
use Rattle.lobby_desk.specs.Events.{DeskInput, Opened, Closed, Said, Hurried, Heard, ServerTurned, Renewed, Linked}
use Rattle.lobby_desk.specs.Events.{Found, MessageValue, to_one, to_one_as, to_log}
use Rattle.lobby_players.specs.Halts.{found_line, found_texts}
use Rattle.lobby_table.specs.Owed.{Ask, ForPositions, ForGame, ForTable, ForAct, Owed}
use Rattle.lobby_table.specs.Owed.{Nobody, Naming, Asker, Dropper, Pairer, Followers, Behind, owed_lines}
use Rattle.lobby_desk.specs.Events.{asker}
use Rattle.lobby_desk.specs.Events.{follower, Following, follows_heard, told_as}
use Rattle.lobby_desk.specs.Logging.{logged_for, logged_standing}
use Rattle.lobby_table.specs.Waiting.{seats_told, seats_opened, seats_listed}
use Rattle.lobby_table.specs.Pairings.{pairings_opened, pairings_told}
use Rattle.lobby_table.specs.Refusals.{refused_told}
use Rattle.lobby_table.specs.Owed.{is_number, owes, waiter}

-- What is known of the connections and of the server: for whom the next answers of the server are, the oldest first;
-- how many lines of the answer that has begun are still to come, and those that came; the last whole answer; who
-- watches which game, and who is told of the table, each in the order in which they came to; who has a seat in which
-- game that waits or goes on, and which are kept for whom; how many acts were refused in which game since one was
-- accepted there; the last act of which it was asked right behind it how its game stands, where the server accepted it
-- and that is not told yet; and whether the server has not taken a name on the connection that stands.
pub record Known : Type 0 where
  pub owed : List Owed
  pub left : ℕ
  pub begun : List ℕ
  pub last : List ℕ
  pub watches : List Watch
  pub table : List ℕ
  pub seats : List Seat
  pub pairings : List Pairing
  pub refused : List RefusedActs
  pub follows : Option Following
  pub misnamed : Bool

-- Whether a line ends an answer that counts. From the answer on by which the server does not take a name that was said
-- to it, none counts that comes on this connection: the lines behind may stand there under another name.
abbrev pub is_counted : Known → List ℕ → Bool
is_counted k line = is_whole k.left line && not k.misnamed

-- the front of the answer to a `watch` that is accepted, and of that to `lobby`
abbrev pub watch_front : ℕ → List ℕ
watch_front game = codes "ok watch " ++ decimal game ++ codes "\n"

abbrev pub table_front : List ℕ
table_front = codes "ok lobby\n"

-- Whether a connection is open from now on: since it came until it is gone.
abbrev pub open_now : DeskInput → ℕ → Bool → Bool
open_now (Opened d) c before = d == c || before
open_now (Closed d) c before = if d == c then false else before
open_now _ c before = before

-- whether a message leaves the table; who watches after one that leaves a game
abbrev pub leaves_table : List ℕ → Bool
leaves_table text = is_message text && is_leave_lobby_sort (sort_of text)

abbrev pub left_game : ℕ → Option ℕ → List Watch → List Watch
left_game c None watches = watches
left_game c (Some game) watches = unwatched c game watches

-- Who watches after an answer, by whose it is: whose `watch` it is, if its connection acts for a player and the answer
-- before it shows the game.
abbrev pub watch_heard : (ℕ → Bool) → List ℕ → Owed → List Watch → List Watch
watch_heard acts before (Asker c (ForGame game)) watches = watch_if (is_shown before && acts c) c game watches
watch_heard acts before _ watches = watches

abbrev pub watch_next : (ℕ → Bool) → List ℕ → List Owed → List Watch → List Watch
watch_next acts before [] watches = watches
watch_next acts before (o ∷ owed) watches = watch_heard acts before o watches

-- A connection watches a game from the answer to its `watch G` until it says `leave G`, acts for nobody, or is gone;
-- `acts` tells who acts for a player after the event.
abbrev pub watches_now : DeskInput → (ℕ → Bool) → Known → List Watch
watches_now (Closed c) acts k = none_watched c k.watches
watches_now (Said c text at) acts k =
    if is_message text && is_leave_sort (sort_of text) && acts c then left_game c (u32_in (rest_of text)) k.watches
    else k.watches
watches_now (Heard line) acts k = if is_counted k line then watch_next acts k.last k.owed k.watches else k.watches
watches_now (Renewed players) acts k = watches_kept acts k.watches
watches_now (Linked c text players token) acts k = watches_kept acts k.watches
watches_now _ acts k = k.watches

-- A connection is told of the table from the answer to its `lobby` until it says `leave lobby`, acts for nobody, or is
-- gone.
abbrev pub table_heard : (ℕ → Bool) → Owed → List ℕ → List ℕ
table_heard acts (Asker c ForTable) table = sit_if (acts c) c table
table_heard acts _ table = table

abbrev pub table_next : (ℕ → Bool) → List Owed → List ℕ → List ℕ
table_next acts [] table = table
table_next acts (o ∷ owed) table = table_heard acts o table

abbrev pub table_now : DeskInput → (ℕ → Bool) → Known → List ℕ
table_now (Closed c) acts k = risen c k.table
table_now (Said c text at) acts k = if leaves_table text && acts c then risen c k.table else k.table
table_now (Heard line) acts k = if is_counted k line then table_next acts k.owed k.table else k.table
table_now (Renewed players) acts k = table_kept acts k.table
table_now (Linked c text players token) acts k = table_kept acts k.table
table_now _ acts k = k.table

-- Who has a seat in which game after an answer, by whose it is: an act was done in the game that its answer names; and
-- whoever asked for it, the answer to `list` tells all.
abbrev pub seats_heard : Owed → List ℕ → List Seat → List Seat
seats_heard (Asker c (ForAct by text)) now seats = seats_told by text (tells_end now) (act_game now) seats
seats_heard (Pairer c by black text) now seats = seats_opened text (act_game now) seats
seats_heard _ now seats = seats

abbrev pub seats_next : List Owed → List ℕ → List Seat → List Seat
seats_next [] now seats = seats
seats_next (o ∷ owed) now seats = seats_heard o now seats

abbrev pub seats_answered : List Owed → List ℕ → List Seat → List Seat
seats_answered owed now seats = seats_listed now (seats_next owed now seats)

abbrev pub seats_now : DeskInput → Known → List Seat
seats_now (Heard line) k = if is_counted k line then seats_answered k.owed (answer k.begun line) k.seats else k.seats
seats_now _ k = k.seats

-- Which games are kept for whom after an answer, by whose it is: that to the opening of a pairing, or to an act.
abbrev pub pairings_heard : Owed → List ℕ → List Pairing → List Pairing
pairings_heard (Asker c (ForAct by text)) now pairings = pairings_told text (act_game now) pairings
pairings_heard (Pairer c by black text) now pairings = pairings_opened black (act_game now) pairings
pairings_heard _ now pairings = pairings

abbrev pub pairings_next : List Owed → List ℕ → List Pairing → List Pairing
pairings_next [] now pairings = pairings
pairings_next (o ∷ owed) now pairings = pairings_heard o now pairings

abbrev pub pairings_now : DeskInput → Known → List Pairing
pairings_now (Heard line) k =
    if is_counted k line then pairings_next k.owed (answer k.begun line) k.pairings else k.pairings
pairings_now _ k = k.pairings

-- How many acts were refused after an answer, by whose it is.
abbrev pub refused_heard : Owed → List ℕ → List RefusedActs → List RefusedActs
refused_heard (Asker c (ForAct by text)) now refused = refused_told text now refused
refused_heard (Pairer c by black text) now refused = refused_told text now refused
refused_heard _ now refused = refused

abbrev pub refused_next : List Owed → List ℕ → List RefusedActs → List RefusedActs
refused_next [] now refused = refused
refused_next (o ∷ owed) now refused = refused_heard o now refused

abbrev pub refused_now : DeskInput → Known → List RefusedActs
refused_now (Heard line) k =
    if is_counted k line then refused_next k.owed (answer k.begun line) k.refused else k.refused
refused_now _ k = k.refused

-- The act of which is told next, after an answer, by whose it is; none on a new connection to the server.
abbrev pub follows_next : List Owed → List ℕ → Option Following → Option Following
follows_next [] now follows = follows
follows_next (o ∷ owed) now follows = follows_heard o now follows

abbrev pub follows_now : DeskInput → Known → Option Following
follows_now (Heard line) k =
    if is_counted k line then follows_next k.owed (answer k.begun line) k.follows else k.follows
follows_now (ServerTurned is_here) k = None
follows_now _ k = k.follows

-- Whether the server has not taken a name, after an answer, by whose it is: to a `name` line any but `ok name` with its
-- name. It stays so on that connection.
abbrev pub misnamed_heard : Owed → List ℕ → Bool → Bool
misnamed_heard (Naming name) now misnamed = not (takes_name name now)
misnamed_heard _ now misnamed = misnamed

abbrev pub misnamed_next : List Owed → List ℕ → Bool → Bool
misnamed_next [] now misnamed = misnamed
misnamed_next (o ∷ owed) now misnamed = misnamed_heard o now misnamed

abbrev pub misnamed_now : DeskInput → Known → Bool
misnamed_now (Heard line) k =
    if is_counted k line then misnamed_next k.owed (answer k.begun line) k.misnamed else k.misnamed
misnamed_now (ServerTurned is_here) k = false
misnamed_now _ k = k.misnamed

-- the first of them is answered so, and these lines go out for it
abbrev pub owed_answered : List Owed → List ℕ → List (List ℕ) → List Owed
owed_answered [] now lines = []
owed_answered (o ∷ owed) now lines = owed ++ owed_lines (follower o now) lines

-- For whom the next answers are: the server answers each line, in the order in which the lines went to it.
abbrev pub owed_now : DeskInput → List ℕ → List (List ℕ) → Known → List Owed
owed_now (Said c text at) by lines k = k.owed ++ owed_lines (asker c by text) lines
owed_now (Heard line) by lines k =
    if is_counted k line then owed_answered k.owed (answer k.begun line) lines else k.owed
owed_now (ServerTurned is_here) by lines k = []
owed_now _ by lines k = k.owed

abbrev pub left_now : DeskInput → Known → ℕ
left_now (Heard line) k = left_after k.left line
left_now (ServerTurned is_here) k = 0
left_now _ k = k.left

abbrev pub begun_now : DeskInput → Known → List ℕ
begun_now (Heard line) k = if is_whole k.left line then [] else answer k.begun line
begun_now (ServerTurned is_here) k = []
begun_now _ k = k.begun

abbrev pub last_now : DeskInput → Known → List ℕ
last_now (Heard line) k = if is_counted k line then answer k.begun line else k.last
last_now _ k = k.last

-- What is known after an event, for which these lines went out; `by` is the name of the player for whom a connection
-- acts that has spoken, and `acts` tells who acts for a player then.
abbrev pub known_now : DeskInput → List ℕ → List (List ℕ) → (ℕ → Bool) → Known → Known
known_now event by lines acts k = record {
  owed = owed_now event by lines k;
  left = left_now event k;
  begun = begun_now event k;
  last = last_now event k;
  watches = watches_now event acts k;
  table = table_now event acts k;
  seats = seats_now event k;
  pairings = pairings_now event k;
  refused = refused_now event k;
  follows = follows_now event k;
  misnamed = misnamed_now event k;
}

-- one message, to this connection
abbrev pub IsToldOne : ℕ → List MessageValue → Type 0
IsToldOne c tells = (text : List ℕ) × (tells ≡ to_one c text ∷ [])

-- what those who are told of the table are told where a message changed what is offered; and this behind an answer
abbrev pub offers_notice : List ℕ → MessageValue
offers_notice table = record { to = table; kind = kinds.Whole; text = codes "offers\n" }

abbrev pub AreToldOffers : List ℕ → ℕ → List MessageValue → Type 0
AreToldOffers table c tells = (text : List ℕ) × (tells ≡ to_one c text ∷ offers_notice table ∷ [])

-- What the log is told of an arbiter's message: in front what comes of it, then who said it, and the message.
abbrev pub said_by : List ℕ → List ℕ → List ℕ → List ℕ
said_by front by text = front ++ by ++ codes " " ++ text ++ codes "\n"

-- what it is told where everybody is told something, which is none of an act
abbrev pub call_front : Call → List ℕ
call_front calls.Announce = codes "told by "
call_front calls.Decide = codes "told by "
call_front _ = codes "clocks by "

abbrev pub call_said : Call → List ℕ → List ℕ → List ℕ
call_said call by text = said_by (call_front call) by text

abbrev pub call_logged : Call → List ℕ → List ℕ → MessageValue
call_logged call by text = to_log (call_said call by text)

-- What everybody is told then: that all clocks are stopped, and the reason that the message names, or that they run; or
-- what is announced, which is nothing where nothing stands behind the word; or what is decided.
abbrev pub announcement : List ℕ → List ℕ
announcement text =
    if nat_le 1 (length text) then codes "announced " ++ text ++ codes "\n" else codes "announced\n"

abbrev pub call_line : Call → List ℕ → List ℕ
call_line calls.StopClocks text = codes "clocks stopped " ++ as_line text ++ codes "\n"
call_line calls.StartClocks text = codes "clocks run\n"
call_line calls.Announce text = announcement (rest_of text)
call_line calls.Decide text = codes "decided " ++ rest_of text ++ codes "\n"

abbrev pub call_notice : List ℕ → Call → List ℕ → MessageValue
call_notice to call text = record { to = to; kind = kinds.Whole; text = call_line call text }

-- the name of a player, and none of nobody
abbrev pub name_of : Option Identity → List ℕ
name_of None = []
name_of (Some who) = who.name

abbrev pub IsArbiter : Option Identity → Type 0
IsArbiter None = ⊥
IsArbiter (Some who) = who.is_arbiter ≡ true

-- who hears it: each connection that is open, but of what is decided those alone that act for a player
abbrev pub hears : Call → (ℕ → Bool) → (ℕ → Option Identity) → ℕ → Bool
hears calls.Decide is_open acts_for c = acting acts_for c && is_open c
hears _ is_open acts_for c = is_open c

-- The log is told first who said so, then he is answered, and then they are told who hear it.
pub record AreToldCall (is_heard : ℕ → Bool) (by said : List ℕ) (call : Call) (own : MessageValue)
    (tells : List MessageValue) : Type 0 where
  pub to : List ℕ
  pub all : (c : ℕ) → at_table to c ≡ is_heard c
  pub told : tells ≡ call_logged call by said ∷ own ∷ call_notice to call said ∷ []

-- They are for an arbiter's message that asks for just this.
pub record AreToldSome (is_open : ℕ → Bool) (acts_for : ℕ → Option Identity) (said : List ℕ) (c : ℕ)
    (tells : List MessageValue) : Type 0 where
  pub call : Call
  pub asked : sort_of said ≡ sorts.Call call
  pub arbiter : IsArbiter (acts_for c)
  pub text : List ℕ
  pub told : AreToldCall (hears call is_open acts_for) (name_of (acts_for c)) said call (to_one c text) tells

-- the answer to `moves FEN`, which is made of the message as it goes out
abbrev pub moves_told : ℕ → List ℕ → MessageValue
moves_told c said = to_one_as c kinds.Moves said

abbrev pub AreToldMoves : List ℕ → ℕ → List MessageValue → Type 0
AreToldMoves said c tells = (sort_of said ≡ sorts.Moves) × (tells ≡ moves_told c said ∷ [])

-- A message of a connection is answered at once where nothing goes to the server for it.
abbrev pub IsToldOrSent : (ℕ → Bool) → List ℕ → (ℕ → Option Identity) → List ℕ → List (List ℕ) → ℕ → List MessageValue →
    Type 0
IsToldOrSent is_open table acts_for said [] c tells =
    IsToldOne c tells ⊎ AreToldOffers table c tells ⊎ AreToldSome is_open acts_for said c tells
    ⊎ AreToldMoves said c tells
IsToldOrSent is_open table acts_for said (line ∷ lines) c tells = tells ≡ []

-- The answer to an act is the server's; but that to a pairing, once its game is joined, tells the game.
abbrev pub pair_told : Option ℕ → List ℕ → List ℕ
pair_told None now = now
pair_told (Some game) now = codes "ok pair " ++ decimal game ++ codes "\n"

abbrev pub acted_text : List ℕ → List ℕ → List ℕ
acted_text text now = if is_pair text then pair_told (act_game now) now else now

-- What a connection is told for the server's answers to its message, of which this is the last: that answer itself; for
-- the table `ok lobby` and the answer, which is to `list`. Two lines go out for a game to watch, `show` and `fen`:
-- where the game is shown, `ok watch G` and both answers; else the first of them.
abbrev pub made_of : Ask → List ℕ → List ℕ → List ℕ
made_of ForTable before now = table_front ++ now
made_of (ForGame game) before now = if is_shown before then watch_front game ++ before ++ now else before
made_of (ForAct by text) before now = acted_text text now
made_of _ before now = now

-- what is still to be done with a text that ends with the answer to `fen`, and with the answer to `pgn` for `line`
abbrev pub position_kind : List ℕ → Kind
position_kind now = if is_position now then kinds.Position else kinds.Whole

abbrev pub positions_kind : List ℕ → Kind
positions_kind now = if is_pgn now then kinds.Line else kinds.Whole

-- what is still to be done with what is told for a message
abbrev pub kind_of : Ask → List ℕ → List ℕ → Kind
kind_of ForPositions before now = positions_kind now
kind_of (ForGame game) before now = if is_shown before then position_kind now else kinds.Whole
kind_of _ before now = kinds.Whole

-- A notice of an act, with the answers to `show` and `fen`: to all who watch the game, and to the table where that is
-- told of the act or the game is over.
abbrev pub notice : Known → ℕ → List ℕ → Bool → List ℕ → MessageValue
notice k game act is_table now = record {
  to = followers k.watches k.table game (is_table || is_over k.last);
  kind = position_kind now;
  text = codes "told " ++ decimal game ++ codes "\n" ++ act ++ k.last ++ now;
}

-- What a `drop` is answered that does not go out, by the answer to `show`: where another waits in its game, that who
-- asks is no arbiter; else, where the game is shown, that it does not wait for a second player; else the refusal to
-- show it.
abbrev pub undropped : List ℕ → List ℕ → List ℕ
undropped text now =
    if is_some (lone_player now (rest_of text)) then refusal_text refusals.NotArbiter
    else (if is_shown now then refusal_text refusals.NotWaiting else now)

-- What is told for an answer of the server, by whose it is and by what is known before it. What goes to the log is told
-- before the rest.
abbrev pub IsToldFor : Known → Owed → List ℕ → List (List ℕ) → List MessageValue → Type 0
IsToldFor k Nobody now lines tells = (lines ≡ []) × (tells ≡ [])
IsToldFor k (Naming name) now lines tells = (lines ≡ []) × (tells ≡ [])
IsToldFor k (Asker c ask) now lines tells =
    tells ≡ logged_for k.refused ask now ++ to_one_as c (kind_of ask k.last now) (made_of ask k.last now) ∷ []
IsToldFor k (Dropper c by text) now [] tells = tells ≡ to_one c (undropped text now) ∷ []
IsToldFor k (Dropper c by text) now (line ∷ lines) tells = tells ≡ []
IsToldFor k (Pairer c by black text) now [] tells =
    tells ≡ logged_for k.refused (ForAct by text) now ++ to_one c now ∷ []
IsToldFor k (Pairer c by black text) now (line ∷ lines) tells = tells ≡ logged_for k.refused (ForAct by text) now
IsToldFor k (Followers game act is_table) now lines tells =
    (lines ≡ []) × (tells ≡ logged_standing k.last ++ notice k game act is_table now ∷ [])
IsToldFor k Behind now lines tells = (lines ≡ []) × (tells ≡ [])

-- What is told for an answer of the server to the first that is owed. What nobody asked for is told to nobody.
abbrev pub IsToldNext : Known → List Owed → List ℕ → List (List ℕ) → List MessageValue → Type 0
IsToldNext k [] now lines tells = (lines ≡ []) × (tells ≡ [])
IsToldNext k (o ∷ owed) now lines tells = IsToldFor k (told_as k.follows o) now lines tells

abbrev pub IsToldHeard : Bool → Known → List ℕ → List (List ℕ) → List MessageValue → Type 0
IsToldHeard false k now lines tells = (lines ≡ []) × (tells ≡ [])
IsToldHeard true k now lines tells = IsToldNext k k.owed now lines tells

-- `lost` to each connection whose message waits, in the order of the messages
abbrev pub lost_of : Option ℕ → List MessageValue
lost_of None = []
lost_of (Some c) = to_one c (codes "lost\n") ∷ []

abbrev pub lost : List Owed → List MessageValue
lost [] = []
lost (o ∷ owed) = lost_of (waiter o) ++ lost owed

-- what tells that the server is there, and that it is not
abbrev pub presence : Bool → List ℕ
presence true = codes "server here\n"
presence false = codes "server gone\n"

-- The answer to a message that asks for a change of the players' file, `link NAME`, `close NAME` or
-- `player NAME FULL NAME`, once that is done: the token is told of a new link. The log is told before who said it.
abbrev pub token_told : Bool → List ℕ → List ℕ
token_told closes token = if closes then codes "\n" else codes " " ++ token ++ codes "\n"

abbrev pub linked_text : List ℕ → List ℕ → List ℕ
linked_text text token = codes "ok " ++ text ++ token_told (is_close_sort (sort_of text)) token

abbrev pub change_said : List ℕ → List ℕ → List ℕ
change_said by text = said_by (codes "players by ") by text

abbrev pub change_told : List ℕ → ℕ → List ℕ → List ℕ → List MessageValue
change_told by c text token = to_log (change_said by text) ∷ to_one c (linked_text text token) ∷ []

-- these messages, and behind them one to every connection that is open
abbrev pub AreToldAll : (ℕ → Bool) → List MessageValue → List ℕ → List MessageValue → Type 0
AreToldAll is_open first text tells =
    (to : List ℕ) × ((c : ℕ) → at_table to c ≡ is_open c)
    × (tells ≡ first ++ record { to = to; kind = kinds.Whole; text = text } ∷ [])

-- What connections are told for an event, where these are open, act for these players and this is known before it, and
-- these lines go out. A connection says a message where it is open and no answer is owed to it, so that its answers
-- come in the order of its messages.
abbrev pub IsTold : DeskInput → List (List ℕ) → List MessageValue → (ℕ → Bool) → (ℕ → Option Identity) → Known →
    Type 0
IsTold (Opened c) lines tells is_open acts_for k = IsToldOne c tells
IsTold (Closed c) lines tells is_open acts_for k = tells ≡ []
IsTold (Said c text at) lines tells is_open acts_for k =
    (is_open c ≡ true) × (owes k.owed c ≡ false) × IsToldOrSent is_open k.table acts_for text lines c tells
IsTold (Hurried c) lines tells is_open acts_for k =
    (is_open c ≡ true) × (owes k.owed c ≡ false) × (tells ≡ to_one c (codes "no 34 TooFast\n") ∷ [])
IsTold (Heard line) lines tells is_open acts_for k = IsToldHeard (is_counted k line) k (answer k.begun line) lines tells
IsTold (Renewed players) lines tells is_open acts_for k = tells ≡ []
IsTold (Linked c text players token) lines tells is_open acts_for k =
    (is_open c ≡ true) × (owes k.owed c ≡ false) × (tells ≡ change_told (name_of (acts_for c)) c text token)
IsTold (ServerTurned is_here) lines tells is_open acts_for k = AreToldAll is_open (lost k.owed) (presence is_here) tells
IsTold (Found finding) lines tells is_open acts_for k =
    AreToldAll is_open (map to_log (found_texts finding)) (found_line finding) tells
