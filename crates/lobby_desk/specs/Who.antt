-- For whom connections act, and what a step of the desk does.
use Rattle.std.specs.Prelude.{ℕ, ◌≡◌, ◌⊎◌, Bool, true, false, not, ◌&&◌, ◌||◌, ◌==◌, List, [], ◌∷◌, ◌++◌, ◌+◌, codes}
use Rattle.std.specs.Prelude.{decimal, map, Option, None, Some, is_some, option_and_then, if◌then◌else◌}
use Rattle.std.specs.BTreeMap.{BTreeMap, get}
use Rattle.std.specs.Ordering.{nat_cmp}
use Rattle.std.specs.Str.{bytes_eq}
use Rattle.std.specs.String.{string_bytes}
use Rattle.player_name.specs.Name.{IsName}
use Rattle.lobby_words.specs.declared.words.Call.{Call}
use Rattle.lobby_words.specs.declared.words.Call.TheVariants as calls
use Rattle.lobby_words.specs.declared.planning.Plan.{Plan}
use Rattle.lobby_words.specs.declared.planning.Plan.TheVariants as plans
use Rattle.lobby_words.specs.declared.refusals.Refusal.{Refusal}
use Rattle.lobby_words.specs.declared.refusals.Refusal.TheVariants as refusals
use Rattle.lobby_words.specs.declared.listing.Seat.{Seat}
use Rattle.lobby_words.specs.declared.planning.Order.{Order}
use Rattle.lobby_words.specs.declared.planning.Standing.{Standing}
use Rattle.lobby_words.specs.declared.planning.Identity.{Identity}
use Rattle.lobby_words.specs.declared.players.Player.{Player}
use Rattle.lobby_table.specs.declared.visitors.Visitor.{Visitor}
use Rattle.lobby_table.specs.declared.watching.Watch.{Watch}
use Rattle.lobby_desk.specs.declared.desk.Desk.{Desk}
use Rattle.lobby_players.specs.declared.halts.Finding.{Finding}
use Rattle.lobby_players.specs.Halts.{Halted, halted, halted_after, halted_found, halts_bar, stop_bar, shuts}
use Rattle.lobby_players.specs.Halts.{told_behind}
use Rattle.lobby_words.specs.Words.{rest_of, as_name, black_name, is_pair, actor, is_message, sort_of, u32_in}
use Rattle.lobby_words.specs.Words.{is_decide_sort, is_decision, is_login_sort}
use Rattle.lobby_words.specs.Waiting.{opens_game, joins_game}
use Rattle.lobby_words.specs.Players.{holder_of, known_name, renewed, login_text, players_text}
use Rattle.lobby_words.specs.Players.{present_names, who_text, IsChanged}
use Rattle.lobby_words.specs.Plans.{refusal_text, taken_text, plan_of, order_of}
use Rattle.lobby_players.specs.Joining.{newcomer_said}
use Rattle.lobby_desk.specs.Lines.{bytes_of, lines_of, said_after, IsNamed}
use Rattle.lobby_table.specs.Sending.{act_lines, join_line, notice_lines}
use Rattle.lobby_words.specs.Answers.{act_game, answer, lone_player}
use Rattle.lobby_table.specs.Watching.{games_of, unwatched, risen, is_full}
use Rattle.lobby_table.specs.Refusals.{game_named}
use Rattle.lobby_desk.specs.declared.limits.Limits.{Limits}
use Rattle.lobby_desk.specs.Limits.{is_crowded, is_busy, is_spent, is_nearly_full}
use Rattle.lobby_table.specs.Pairings.{game_bar, open_bar, join_bar}
use Rattle.lobby_desk.specs.Pace.{is_too_fast}
pub use Rattle.lobby_table.specs.Watching.{at_table}
use Rattle.lobby_desk.specs.Events.{DeskInput, Opened, Closed, Said, Hurried, Heard, ServerTurned, Renewed, Linked}
use Rattle.lobby_desk.specs.Events.{Found, MessageValue, Outgoing, to_one}
use Rattle.lobby_table.specs.Owed.{ForAct, Owed, Asker, Dropper, Pairer, owed_of, owed_lines}
use Rattle.lobby_desk.specs.Events.{plan_asker, follower, following, asked_after, follows_heard, told_as}
use Rattle.lobby_desk.specs.Tellings.{Known, is_counted, open_now, watch_heard, watch_next, table_heard, table_next}
use Rattle.lobby_desk.specs.Tellings.{watches_now, table_now, seats_heard, seats_next, seats_now, pairings_heard}
use Rattle.lobby_desk.specs.Tellings.{pairings_next, pairings_now, refused_heard, refused_next, refused_now}
use Rattle.lobby_desk.specs.Tellings.{follows_next, follows_now, misnamed_heard, misnamed_next, misnamed_now, owed_now}
use Rattle.lobby_desk.specs.Tellings.{left_now, begun_now, last_now, owed_answered, presence, IsTold, IsToldFor}
use Rattle.lobby_table.specs.Owed.{owes}
use Rattle.lobby_desk.specs.Tellings.{IsToldNext, offers_notice, hears, AreToldCall, moves_told}
pub use Rattle.lobby_desk.specs.Tellings.{name_of}
use Rattle.lobby_table.specs.declared.rooms.Attendance.{Attendance}
use Rattle.lobby_table.specs.Rooms.{Gathering, IsRoom, AreLeft, attended, left_by}
use Rattle.lobby_offers.specs.Offers.{Offered, offered, accord_of, offers_said, offers_text}
use Rattle.lobby_table.specs.Visitors.{who_in, acting, until_in, open_in_map, IsPresence}

abbrev pub who_of : Desk → ℕ → Option Identity
who_of desk c = who_in desk.visitors c

-- the games that connections watch, each once for each of them
abbrev pub watched_games : Desk → List ℕ
watched_games desk = games_of desk.watches.items

abbrev pub until_of : Desk → ℕ → ℕ
until_of desk c = until_in desk.visitors c

-- whether an event is of this connection
abbrev pub is_of : DeskInput → ℕ → Bool
is_of (Opened d) c = d == c
is_of (Closed d) c = d == c
is_of (Said d text at) c = d == c
is_of (Linked d text players token) c = d == c
is_of _ c = false

-- the players from now on
abbrev pub players_now : DeskInput → List Player → List Player
players_now (Renewed next) before = next
players_now (Linked c text next token) before = next
players_now _ before = before

abbrev pub open_of : Desk → ℕ → Bool
open_of desk c = open_in_map desk.visitors c

-- the name of the player for whom a connection acts that says a message
abbrev pub speaker : (ℕ → Option Identity) → DeskInput → List ℕ
speaker who (Said c text at) = name_of (who c)
speaker who (Linked c text players token) = name_of (who c)
speaker who _ = []

-- the player for whom a connection acts, after the plan for a message of it
abbrev pub who_noted : Plan → Option Identity → Option Identity
who_noted (plans.Login who) before = Some who
who_noted _ before = before

-- who watches, and who is told of the table, after the plan for a message
abbrev pub plan_watches : Plan → ℕ → List Watch → List Watch
plan_watches (plans.Leave game) c watches = unwatched c game watches
plan_watches _ c watches = watches

abbrev pub plan_table : Plan → ℕ → List ℕ → List ℕ
plan_table plans.LeaveLobby c table = risen c table
plan_table _ c table = table

-- whether nothing goes out by a plan, so that a message is answered at once
abbrev pub is_own : Plan → Bool
is_own (plans.Refuse refusal) = true
is_own (plans.Offer who) = true
is_own (plans.Unpair who) = true
is_own (plans.Offers who at) = true
is_own (plans.Login who) = true
is_own plans.Players = true
is_own plans.Who = true
is_own plans.Pause = true
is_own plans.Resume = true
is_own (plans.Call call) = true
is_own (plans.Order order) = true
is_own (plans.Taken name) = true
is_own plans.LeaveLobby = true
is_own (plans.Leave game) = true
is_own (plans.Room game at) = true
is_own plans.Moves = true
is_own _ = false

-- the answer to a message by which everybody is told something
abbrev pub call_answer : Call → List ℕ
call_answer calls.StopClocks = codes "ok stop clocks\n"
call_answer calls.StartClocks = codes "ok start clocks\n"
call_answer calls.Announce = codes "ok announce\n"
call_answer calls.Decide = codes "ok decide\n"

-- what such an answer rests on: whether entries are paused, who has a seat in which game, what is offered, who watches
-- which game, who was there when, which connections are open, and for whom each acts
pub record Seen : Type 0 where
  pub paused : Bool
  pub seats : List Seat
  pub offers : List Offered
  pub watches : List Watch
  pub attendances : List Attendance
  pub is_open : ℕ → Bool
  pub acts_for : ℕ → Option Identity

abbrev pub gathering : Seen → Gathering
gathering seen = record {
  seats = seen.seats;
  watches = seen.watches;
  attendances = seen.attendances;
  is_open = seen.is_open;
  acts_for = seen.acts_for;
}

-- Such an answer: a refusal says why; the player is told, or all players are, or those who are there, or what is
-- offered to him and by him, or who of a game is there; what is left is named. An order is not carried out here, and
-- the answer to `moves` is not made here.
abbrev pub IsOwnText : Seen → List Player → Plan → List ℕ → Type 0
IsOwnText seen players (plans.Refuse refusal) text = text ≡ refusal_text refusal
IsOwnText seen players (plans.Offer who) text = text ≡ codes "ok offered\n"
IsOwnText seen players (plans.Unpair who) text = text ≡ codes "ok unpair\n"
IsOwnText seen players (plans.Offers who at) text = text ≡ offers_text seen.acts_for who.name at seen.offers
IsOwnText seen players (plans.Login who) text = text ≡ login_text players who
IsOwnText seen players plans.Players text = text ≡ players_text players
IsOwnText seen players plans.Who text = IsPresence seen.paused players seen.is_open seen.acts_for text
IsOwnText seen players plans.Pause text = text ≡ codes "ok pause entries\n"
IsOwnText seen players plans.Resume text = text ≡ codes "ok resume entries\n"
IsOwnText seen players (plans.Call call) text = text ≡ call_answer call
IsOwnText seen players (plans.Order order) text = text ≡ refusal_text refusals.NotWritten
IsOwnText seen players (plans.Taken name) text = text ≡ taken_text name
IsOwnText seen players plans.LeaveLobby text = text ≡ codes "ok leave lobby\n"
IsOwnText seen players (plans.Leave game) text = text ≡ codes "ok leave " ++ decimal game ++ codes "\n"
IsOwnText seen players (plans.Room game at) text = IsRoom (gathering seen) game at text
IsOwnText seen players _ text = Unit {0}

abbrev pub known : Desk → Known
known desk = record {
  owed = map owed_of desk.line.queue.items;
  left = desk.line.coming.left;
  begun = string_bytes desk.line.coming.text;
  last = string_bytes desk.line.last;
  watches = desk.watches.items;
  table = desk.table.items;
  seats = desk.line.seats.items;
  pairings = desk.line.pairings.items;
  refused = desk.line.refused.items;
  follows = following desk.line.acted;
  misnamed = desk.line.is_misnamed;
}

-- whether the server has not answered yet what a connection asked, which may be gone
abbrev pub is_owed : Desk → ℕ → Bool
is_owed desk c = owes (known desk).owed c

-- the connection is open, and no answer is owed to it
abbrev pub IsReady : Desk → ℕ → Type 0
IsReady desk c = (open_of desk c ≡ true) × (is_owed desk c ≡ false)

-- what is seen of a desk: the number of the connection that comes next, which are open, for whom each acts, the name
-- that was said last to the server, whether that is there, what an arbiter has halted, how many games may be, what is
-- offered, who was there when, and what is known
pub record View : Type 0 where
  pub next : ℕ
  pub is_open : ℕ → Bool
  pub who : ℕ → Option Identity
  pub said : Option (List ℕ)
  pub here : Bool
  pub halts : Halted
  pub limits : Limits
  pub offers : List Offered
  pub attendances : List Attendance
  pub known : Known

abbrev pub view : Desk → View
view desk =
    record {
      next = desk.next;
      is_open = open_of desk;
      who = who_of desk;
      said = desk.line.said;
      here = desk.line.is_here;
      halts = halted desk.halts;
      limits = desk.limits;
      offers = map offered desk.offers.items;
      attendances = desk.attendances.items;
      known = known desk;
    }

abbrev pub seen : View → Seen
seen v = record {
  paused = v.halts.paused;
  seats = v.known.seats;
  offers = v.offers;
  watches = v.known.watches;
  attendances = v.attendances;
  is_open = v.is_open;
  acts_for = v.who;
}

-- Behind the answer those who are told of the table are told where the message changed what is offered; and where it
-- has everybody told something, first the log is told who said it, and then, behind the answer, everybody. The answer
-- to `moves` is the message itself, of which it is made as it goes out.
abbrev pub IsToldBehind : View → List ℕ → ℕ → Plan → MessageValue → List MessageValue → Type 0
IsToldBehind v said c (plans.Offer who) own tells = tells ≡ own ∷ offers_notice v.known.table ∷ []
IsToldBehind v said c (plans.Unpair who) own tells = tells ≡ own ∷ offers_notice v.known.table ∷ []
IsToldBehind v said c (plans.Call call) own tells =
    AreToldCall (hears call v.is_open v.who) (name_of (v.who c)) said call own tells
IsToldBehind v said c plans.Moves own tells = tells ≡ moves_told c said ∷ []
IsToldBehind v said c _ own tells = tells ≡ own ∷ []

-- What a connection is told by the plan for its message: such an answer, where nothing goes out; else nothing yet.
abbrev pub IsAnsweredIf : Bool → List Player → View → List ℕ → Plan → ℕ → List MessageValue → Type 0
IsAnsweredIf true players v said plan c tells =
    (text : List ℕ) × IsOwnText (seen v) players plan text × IsToldBehind v said c plan (to_one c text) tells
IsAnsweredIf false players v said plan c tells = tells ≡ []

abbrev pub IsAnswered : List Player → View → List ℕ → Plan → ℕ → List MessageValue → Type 0
IsAnswered players v said plan c tells = IsAnsweredIf (is_own plan) players v said plan c tells

-- A desk that begins: no connection has come, and nothing was said; just this is halted and announced.
pub record BeginsView (at_first : Halted) (now : View) : Type 0 where
  pub next : now.next ≡ 0
  pub none_open : (c : ℕ) → now.is_open c ≡ false
  pub who : (c : ℕ) → now.who c ≡ None
  pub said : now.said ≡ None
  pub here : now.here ≡ false
  pub halts : now.halts ≡ at_first
  pub offers : now.offers ≡ []
  pub attendances : now.attendances ≡ []
  pub owed : now.known.owed ≡ []
  pub left : now.known.left ≡ 0
  pub begun : now.known.begun ≡ []
  pub last : now.known.last ≡ []
  pub watches : now.known.watches ≡ []
  pub table : now.known.table ≡ []
  pub seats : now.known.seats ≡ []
  pub pairings : now.known.pairings ≡ []
  pub refused : now.known.refused ≡ []
  pub follows : now.known.follows ≡ None
  pub misnamed : now.known.misnamed ≡ false

abbrev pub Begins : Halted → Desk → Type 0
Begins at_first desk = BeginsView at_first (view desk)

-- a message, or one that comes too fast
abbrev pub said_event : Bool → ℕ → List ℕ → ℕ → DeskInput
said_event true c text at = Hurried c
said_event false c text at = Said c text at

-- Why a message does not open a game, or does not join one, by the games that are known and the limits, where it would
-- under this name: no game more of this player may wait for a second one; or, but for an arbiter's message, no more may
-- go on or be left on the table, or the last places are for arbiters and pairings; or no such game waits for him.
abbrev pub player_bar : Limits → Known → Bool → List ℕ → Option Refusal
player_bar limits k is_arbiter name =
    game_bar (not is_arbiter && is_busy limits k.seats k.owed name)
    (not is_arbiter && is_spent limits k.seats k.owed name)

abbrev pub name_bar : Limits → Known → Bool → List ℕ → List ℕ → Option Refusal
name_bar limits k is_arbiter name text =
    if opens_game text then open_bar (is_crowded limits k.seats k.owed name)
    (not is_arbiter && is_nearly_full limits k.seats k.owed)
    (player_bar limits k is_arbiter name)
    else (if joins_game text then join_bar k.seats k.pairings (player_bar limits k is_arbiter name) name
    (game_named text) else None)

abbrev pub or_bar : Option Refusal → Option Refusal → Option Refusal
or_bar None bar = bar
or_bar (Some first) bar = Some first

-- Why a message of who acts so is not done: while all clocks are stopped none of who is no arbiter is; and where this
-- lobby can stop no clocks none is that asks for it; and no decision is but one that has been put to those of its
-- round.
abbrev pub bar_of : Limits → Known → Halted → Bool → Option Identity → List ℕ → Option Refusal
bar_of limits k halts put None text = None
bar_of limits k halts put (Some who) text =
    or_bar (halts_bar halts put who.is_arbiter text) (name_bar limits k who.is_arbiter (actor who.name text) text)

-- Why the two players of a pairing may not play it, where no arbiter pairs them: all clocks are stopped, White may open
-- no game more, or one of the two may play in no one more.

abbrev pub opening_bar : Limits → Known → List ℕ → Option Refusal
opening_bar limits k name =
    open_bar (is_crowded limits k.seats k.owed name) (is_nearly_full limits k.seats k.owed)
    (player_bar limits k false name)

abbrev pub pair_bar_of : Limits → Known → Halted → List ℕ → Option Refusal
pair_bar_of limits k halts text =
    if is_pair text then or_bar (stop_bar halts false)
    (or_bar (opening_bar limits k (as_name text)) (player_bar limits k false (black_name text)))
    else None

-- who has the token that a message shows; nobody where it shows none
abbrev pub holder_shown : List Player → List ℕ → Option Identity
holder_shown players text = if is_login_sort (sort_of text) then holder_of players (rest_of text) else None

-- what the plan for a message of a connection at a moment rests on; and whether it is a decision that has been put
abbrev pub standing_of : Bool → Desk → ℕ → List ℕ → ℕ → Standing
standing_of put desk c text at = record {
  who = who_of desk c;
  holder = holder_shown desk.players.items text;
  named = known_name desk.players.items (as_name text);
  black = known_name desk.players.items (black_name text);
  linked = known_name desk.players.items (rest_of text);
  newcomer = newcomer_said desk.players.items text;
  is_here = desk.line.is_here;
  is_full = is_full desk.watches.items c (u32_in (rest_of text));
  bar = bar_of desk.limits (known desk) (halted desk.halts) put (who_of desk c) text;
  accord = accord_of desk.players.items (who_of desk) c text at (map offered desk.offers.items);
  pair_bar = pair_bar_of desk.limits (known desk) (halted desk.halts) text;
  is_paused = shuts (halted desk.halts) text;
  at = at;
}

-- what a message at this moment has done in the players' file; nothing where it comes too fast
abbrev pub order_asked : Desk → ℕ → List ℕ → ℕ → Option Order
order_asked desk c text at =
    if is_too_fast (until_of desk c) at then None
    else order_of (plan_of (is_message text) (sort_of text) (standing_of false desk c text at)
    (u32_in (rest_of text)))

-- Whether a message at this moment is an arbiter's that decides, and not one that comes too fast: then whoever keeps
-- the decisions is asked to put it to those of its round.
abbrev pub is_arbiters : Option Identity → Bool
is_arbiters None = false
is_arbiters (Some who) = who.is_arbiter

abbrev pub decides_now : Desk → ℕ → List ℕ → ℕ → Bool
decides_now desk c text at =
    is_decision text && not (is_too_fast (until_of desk c) at) && is_message text && is_decide_sort (sort_of text)
    && is_arbiters (who_of desk c)

-- What is told of it: where it has been put, everybody is told it, behind the log and the answer; else it is refused.
abbrev pub IsDecisionTold : Bool → Desk → ℕ → List ℕ → List MessageValue → List MessageValue → Type 0
IsDecisionTold true desk c text before after =
    (tells : List MessageValue) × (after ≡ before ++ tells)
    × AreToldCall (hears calls.Decide (open_of desk) (who_of desk)) (name_of (who_of desk c)) text calls.Decide
    (to_one c (call_answer calls.Decide)) tells
IsDecisionTold false desk c text before after =
    after ≡ before ++ to_one c (refusal_text refusals.NotDecided) ∷ []

-- The plan for a message is carried out: these lines go out, and of the players for whom connections act no more
-- changes than a login says.
pub record IsSaid (players : List Player) (old : View) (c : ℕ) (text : List ℕ) (lines : List (List ℕ))
    (tells : List MessageValue) (new : View) : Type 0 where
  pub standing : Standing
  pub who : standing.who ≡ old.who c
  pub holder : standing.holder ≡ holder_shown players text
  pub other : standing.named ≡ known_name players (as_name text)
  pub black : standing.black ≡ known_name players (black_name text)
  pub link : standing.linked ≡ known_name players (rest_of text)
  pub newcomer : standing.newcomer ≡ newcomer_said players text
  pub here : standing.is_here ≡ old.here
  pub full : standing.is_full ≡ is_full old.known.watches c (u32_in (rest_of text))
  pub put : Bool
  pub bar : standing.bar ≡ bar_of old.limits old.known old.halts put (old.who c) text
  pub accord : standing.accord ≡ accord_of players old.who c text standing.at old.offers
  pub pair_bar : standing.pair_bar ≡ pair_bar_of old.limits old.known old.halts text
  pub paused : standing.is_paused ≡ shuts old.halts text
  pub plan : Plan
  pub planned : plan ≡ plan_of (is_message text) (sort_of text) standing (u32_in (rest_of text))
  pub named : IsNamed plan
  pub lines_are : lines ≡ lines_of plan old.said text
  pub answers : IsAnswered players old text plan c tells
  pub next_is : new.next ≡ old.next
  pub said_is : new.said ≡ said_after plan old.said
  pub here_is : new.here ≡ old.here
  pub halts_is : new.halts ≡ halted_after plan text old.halts
  pub who_is : (d : ℕ) → new.who d ≡ (if c == d then who_noted plan (old.who d) else old.who d)

-- Whether who acts so may drop a game in which this player waits for a second one: an arbiter, or he himself.
abbrev pub may_drop : Option Identity → List ℕ → Bool
may_drop None name = false
may_drop (Some who) name = who.is_arbiter || bytes_eq who.name name

-- The name under which a drop goes out, where this player waits in its game, if one does: his, where who asks may.
abbrev pub dropped_as : Option Identity → Option (List ℕ) → Option (List ℕ)
dropped_as who None = None
dropped_as who (Some name) = if may_drop who name then Some name else None

-- A drop that waited goes out for a connection that acts so, under the name of the player who waits in its game for a
-- second one, as the answer to `show` says.
pub record IsDropped (who : Option Identity) (said : Option (List ℕ)) (now text : List ℕ) (lines : List (List ℕ))
    (later : Option (List ℕ)) : Type 0 where
  pub name : List ℕ
  pub named : IsName name
  pub alone : lone_player now (rest_of text) ≡ Some name
  pub may : may_drop who name ≡ true
  pub lines_are : lines ≡ act_lines said name text (game_named text)
  pub said_is : later ≡ Some name

-- Nothing goes out for a drop that waited: nobody has a seat in its game, or no seat of it is empty, or who asks may
-- not drop it.
pub record IsNotDropped (who : Option Identity) (said : Option (List ℕ)) (now text : List ℕ)
    (lines : List (List ℕ)) (later : Option (List ℕ)) : Type 0 where
  pub none : lines ≡ []
  pub said_is : later ≡ said
  pub not_dropped : dropped_as who (lone_player now (rest_of text)) ≡ None

-- What goes out for the answer to the opening of a pairing: where it names the game, Black joins it.
abbrev pub IsPaired : Option ℕ → Option (List ℕ) → List ℕ → List (List ℕ) → Option (List ℕ) → Type 0
IsPaired None said black lines later = (lines ≡ []) × (later ≡ said)
IsPaired (Some game) said black lines later =
    (lines ≡ act_lines said black (join_line game) None) × (later ≡ Some black) × IsName black

-- What goes out for an answer, by for whom connections act then, by whose it is, and by the name that was said last.
-- For the answer to an act it is asked how the game stands that it names, if that was not asked right behind the act; a
-- drop goes out for the answer that it waits for, where a seat is empty and who asks may drop that game, and the join
-- of a pairing for the answer that opens its game; else nothing does.
abbrev pub IsSentFor : (ℕ → Option Identity) → Owed → Option (List ℕ) → List ℕ → List (List ℕ) → Option (List ℕ)
    → Type 0
IsSentFor who (Asker c (ForAct by text)) said now lines later =
    (lines ≡ notice_lines (asked_after text (act_game now))) × (later ≡ said)
IsSentFor who (Dropper c by text) said now lines later =
    IsNotDropped (who c) said now text lines later ⊎ IsDropped (who c) said now text lines later
IsSentFor who (Pairer c by black text) said now lines later = IsPaired (act_game now) said black lines later
IsSentFor who _ said now lines later = (lines ≡ []) × (later ≡ said)

abbrev pub IsSentNext : (ℕ → Option Identity) → List Owed → Option (List ℕ) → List ℕ → List (List ℕ)
    → Option (List ℕ) → Type 0
IsSentNext who [] said now lines later = (lines ≡ []) × (later ≡ said)
IsSentNext who (o ∷ owed) said now lines later = IsSentFor who o said now lines later

abbrev pub IsSentHeard : (ℕ → Option Identity) → Bool → List Owed → Option (List ℕ) → List ℕ → List (List ℕ)
    → Option (List ℕ) → Type 0
IsSentHeard who false owed said now lines later = (lines ≡ []) × (later ≡ said)
IsSentHeard who true owed said now lines later = IsSentNext who owed said now lines later

-- a line of the server is taken
pub record IsHeard (old : View) (line : List ℕ) (lines : List (List ℕ)) (new : View) : Type 0 where
  pub sent : IsSentHeard old.who (is_counted old.known line) old.known.owed old.said
      (answer old.known.begun line) lines new.said
  pub next_is : new.next ≡ old.next
  pub here_is : new.here ≡ old.here
  pub halts_is : new.halts ≡ old.halts
  pub who_is : (d : ℕ) → new.who d ≡ old.who d

-- A connection came or is gone: nothing goes out, and it acts for nobody.
pub record IsMoved (old : View) (c : ℕ) (lines : List (List ℕ)) (new : View) : Type 0 where
  pub none : lines ≡ []
  pub said_is : new.said ≡ old.said
  pub here_is : new.here ≡ old.here
  pub halts_is : new.halts ≡ old.halts
  pub who_is : (d : ℕ) → new.who d ≡ (if c == d then None else old.who d)

-- A connection came: it has the number that comes next, which none had before, and is told whether the server is there,
-- and in one message with it why all clocks are stopped, where they are, what is announced, and that there is no room
-- for the log, where there is none.
pub record IsOpened (old : View) (c : ℕ) (lines : List (List ℕ)) (tells : List MessageValue) (new : View) : Type 0 where
  pub told : tells ≡ to_one c (told_behind (presence old.here) old.halts) ∷ []
  pub moved : IsMoved old c lines new
  pub number : c ≡ old.next
  pub next_is : new.next ≡ c + 1

-- A connection is gone: its number is not given again.
pub record IsClosed (old : View) (c : ℕ) (lines : List (List ℕ)) (new : View) : Type 0 where
  pub moved : IsMoved old c lines new
  pub next_is : new.next ≡ old.next

-- A message came too fast: nothing goes out, and nothing changes.
pub record IsHurried (old : View) (lines : List (List ℕ)) (new : View) : Type 0 where
  pub none : lines ≡ []
  pub next_is : new.next ≡ old.next
  pub said_is : new.said ≡ old.said
  pub here_is : new.here ≡ old.here
  pub halts_is : new.halts ≡ old.halts
  pub who_is : (d : ℕ) → new.who d ≡ old.who d

-- The server is gone, or is there again: nothing goes out, and no name was said on the connection that comes next.
pub record IsTurned (old : View) (here : Bool) (lines : List (List ℕ)) (new : View) : Type 0 where
  pub none : lines ≡ []
  pub next_is : new.next ≡ old.next
  pub said_is : new.said ≡ None
  pub here_is : new.here ≡ here
  pub halts_is : new.halts ≡ old.halts
  pub who_is : (d : ℕ) → new.who d ≡ old.who d

-- It is found what halts games, or does so no more: nothing goes out, and this holds from now on.
pub record IsFound (old : View) (finding : Finding) (lines : List (List ℕ)) (new : View) : Type 0 where
  pub none : lines ≡ []
  pub next_is : new.next ≡ old.next
  pub said_is : new.said ≡ old.said
  pub here_is : new.here ≡ old.here
  pub halts_is : new.halts ≡ halted_found finding old.halts
  pub who_is : (d : ℕ) → new.who d ≡ old.who d

-- The players are others from now on: a connection acts for a player on just where his sum is the same. Who acts for
-- nobody then watches nothing more, and is told of the table no more (`watches_now`, `table_now`). Nothing else
-- changes.
pub record IsRenewed (players : List Player) (old : View) (later : List Player) (lines : List (List ℕ))
    (new : View) : Type 0 where
  pub none : lines ≡ []
  pub next_is : new.next ≡ old.next
  pub said_is : new.said ≡ old.said
  pub here_is : new.here ≡ old.here
  pub halts_is : new.halts ≡ old.halts
  pub who_is : (d : ℕ) → new.who d ≡ renewed players later (old.who d)

-- The plan for a message is an order of an arbiter's: the players from now on are those before, but that the one whom
-- the message names has this token, which nobody had, or is a player more, with it.
pub record IsLinked (players : List Player) (old : View) (c : ℕ) (text : List ℕ) (later : List Player)
    (token : List ℕ) : Type 0 where
  pub standing : Standing
  pub who : standing.who ≡ old.who c
  pub link : standing.linked ≡ known_name players (rest_of text)
  pub newcomer : standing.newcomer ≡ newcomer_said players text
  pub order : Order
  pub planned : plan_of (is_message text) (sort_of text) standing (u32_in (rest_of text)) ≡ plans.Order order
  pub changes : IsChanged text token players later

-- what the desk does about an event: the lines that go out, and for whom connections act then
abbrev pub IsDone : List Player → View → DeskInput → List (List ℕ) → List MessageValue → View → Type 0
IsDone players old (Opened c) lines tells new = IsOpened old c lines tells new
IsDone players old (Closed c) lines tells new = IsClosed old c lines new
IsDone players old (Said c text at) lines tells new =
    (said : IsSaid players old c text lines tells new) × (said.standing.at ≡ at)
IsDone players old (Hurried c) lines tells new = IsHurried old lines new
IsDone players old (Heard line) lines tells new = IsHeard old line lines new
IsDone players old (Renewed later) lines tells new = IsRenewed players old later lines new
IsDone players old (Linked c text later token) lines tells new =
    IsRenewed players old later lines new × IsLinked players old c text later token
IsDone players old (ServerTurned is_here) lines tells new = IsTurned old is_here lines new
IsDone players old (Found finding) lines tells new = IsFound old finding lines new

-- What is known then, where these connections act for a player then, and the one that has spoken for the one of this
-- name.
pub record IsKnown (event : DeskInput) (by : List ℕ) (lines : List (List ℕ)) (acts : ℕ → Bool)
    (old new : Known) : Type 0 where
  pub owed : new.owed ≡ owed_now event by lines old
  pub left : new.left ≡ left_now event old
  pub begun : new.begun ≡ begun_now event old
  pub last : new.last ≡ last_now event old
  pub watches : new.watches ≡ watches_now event acts old
  pub table : new.table ≡ table_now event acts old
  pub seats : new.seats ≡ seats_now event old
  pub pairings : new.pairings ≡ pairings_now event old
  pub refused : new.refused ≡ refused_now event old
  pub follows : new.follows ≡ follows_now event old
  pub misnamed : new.misnamed ≡ misnamed_now event old

-- what is offered after an event, by for whom connections act before it
abbrev pub offers_now : List Player → (ℕ → Option Identity) → DeskInput → List Offered → List Offered
offers_now players who (Said c text at) offers =
    offers_said (accord_of players who c text at offers) (who c) c text at offers
offers_now players who _ offers = offers

-- Who was there when, after an event: for whomever a connection acts is known from then on; whoever's connection is
-- closed, acts for another, or acts for nobody since the players are others, is left by it, and counts as left from the
-- next message on.
abbrev pub IsAttended : List Player → View → DeskInput → View → Type 0
IsAttended players old (Said c text at) new =
    new.attendances ≡ attended (old.who c) (new.who c) at old.attendances
IsAttended players old (Closed c) new = new.attendances ≡ left_by (old.who c) None old.attendances
IsAttended players old (Renewed later) new =
    AreLeft old.is_open old.who (λ c. renewed players later (old.who c)) old.attendances new.attendances
IsAttended players old (Linked c text later token) new =
    AreLeft old.is_open old.who (λ d. renewed players later (old.who d)) old.attendances new.attendances
IsAttended players old _ new = new.attendances ≡ old.attendances

-- a step: what comes in, the lines that go to the server, and what connections are told; the limits stay
pub record IsStep (players : List Player) (old : View) (event : DeskInput) (lines : List (List ℕ))
    (tells : List MessageValue) (new : View) : Type 0 where
  pub done : IsDone players old event lines tells new
  pub opens : (c : ℕ) → new.is_open c ≡ open_now event c (old.is_open c)
  pub limits : new.limits ≡ old.limits
  pub offers : new.offers ≡ offers_now players old.who event old.offers
  pub attendances : IsAttended players old event new
  pub known : IsKnown event (speaker old.who event) lines (acting new.who) old.known new.known
  pub told : IsTold event lines tells old.is_open old.who old.known

-- A step of the desk, with the bytes that go to the server and what connections are told. The time of no other
-- connection is taken.
pub record Steps (old : Desk) (event : DeskInput) (before after : List ℕ) (told_before told_after : List MessageValue)
    (new : Desk) : Type 0 where
  pub lines : List (List ℕ)
  pub tells : List MessageValue
  pub sent : after ≡ before ++ bytes_of lines
  pub told : told_after ≡ told_before ++ tells
  pub step : IsStep old.players.items (view old) event lines tells (view new)
  pub players : new.players.items ≡ players_now event old.players.items
  pub untils : (c : ℕ) → is_of event c ≡ false → until_of new c ≡ until_of old c

-- a message, the plan for it, and until when the time of its connection is taken by it
pub record Planned : Type 0 where
  pub from : ℕ
  pub text : List ℕ
  pub plan : Plan
  pub until : ℕ

-- A plan for a message is carried out.
pub record Carried (message : Planned) (old : Desk) (before after : Outgoing) (new : Desk) : Type 0 where
  pub tells : List MessageValue
  pub sent : after.wire ≡ before.wire ++ bytes_of (lines_of message.plan old.line.said message.text)
  pub told : after.told ≡ before.told ++ tells
  pub answers : IsAnswered old.players.items (view old) message.text message.plan message.from tells
  pub named : IsNamed message.plan
  pub said_is : new.line.said ≡ said_after message.plan old.line.said
  pub here_is : new.line.is_here ≡ old.line.is_here
  pub halts_is : halted new.halts ≡ halted_after message.plan message.text (halted old.halts)
  pub limits_is : new.limits ≡ old.limits
  pub who_is : (c : ℕ) → who_of new c
      ≡ (if message.from == c then who_noted message.plan (who_of old c) else who_of old c)
  pub owed : (known new).owed ≡ (known old).owed ++ owed_lines (plan_asker message.plan message.from message.text)
      (lines_of message.plan old.line.said message.text)
  pub opens : (c : ℕ) → open_of new c ≡ (message.from == c || open_of old c)
  pub untils : (c : ℕ) → until_of new c ≡ (if message.from == c then message.until else until_of old c)
  pub watches : new.watches.items ≡ plan_watches message.plan message.from old.watches.items
  pub table : new.table.items ≡ plan_table message.plan message.from old.table.items
  pub seats : new.line.seats ≡ old.line.seats
  pub pairings : new.line.pairings ≡ old.line.pairings
  pub refused : new.line.refused ≡ old.line.refused
  pub follows : new.line.acted ≡ old.line.acted
  pub misnamed : new.line.is_misnamed ≡ old.line.is_misnamed
  pub coming : new.line.coming ≡ old.line.coming
  pub last : new.line.last ≡ old.line.last
  pub players : new.players ≡ old.players
  pub next : new.next ≡ old.next
  pub offers : new.offers ≡ old.offers
  pub attendances : new.attendances ≡ old.attendances

-- No answer of the server changes this.
pub record IsElseSame (old new : Desk) : Type 0 where
  pub here_is : new.line.is_here ≡ old.line.is_here
  pub halts_is : new.halts ≡ old.halts
  pub limits_is : new.limits ≡ old.limits
  pub visitors : new.visitors ≡ old.visitors
  pub coming : new.line.coming ≡ old.line.coming
  pub last : new.line.last ≡ old.line.last
  pub players : new.players ≡ old.players
  pub next : new.next ≡ old.next
  pub offers : new.offers ≡ old.offers
  pub attendances : new.attendances ≡ old.attendances

-- An answer of the server is taken, by whose it is; the first that was owed is taken off before.
pub record AnswersTo (o : Owed) (now : List ℕ) (old : Desk) (before after : Outgoing) (new : Desk) : Type 0 where
  pub lines : List (List ℕ)
  pub tells : List MessageValue
  pub sent : after.wire ≡ before.wire ++ bytes_of lines
  pub told : after.told ≡ before.told ++ tells
  pub for_whom : IsSentFor (who_of old) o old.line.said now lines new.line.said
  pub told_whom : IsToldFor (known old) (told_as (following old.line.acted) o) now lines tells
  pub owed : (known new).owed ≡ (known old).owed ++ owed_lines (follower o now) lines
  pub watches : new.watches.items ≡ watch_heard (acting (who_of old)) (string_bytes old.line.last) o old.watches.items
  pub table : new.table.items ≡ table_heard (acting (who_of old)) o old.table.items
  pub seats : new.line.seats.items ≡ seats_heard o now old.line.seats.items
  pub pairings : new.line.pairings.items ≡ pairings_heard o now old.line.pairings.items
  pub refused : new.line.refused.items ≡ refused_heard o now old.line.refused.items
  pub follows : following new.line.acted ≡ follows_heard o now (following old.line.acted)
  pub misnamed : new.line.is_misnamed ≡ misnamed_heard o now old.line.is_misnamed
  pub rests : IsElseSame old new

-- An answer of the server is taken, by whose it is of what is owed: the first of that.
pub record Answered (now : List ℕ) (old : Desk) (before after : Outgoing) (new : Desk) : Type 0 where
  pub lines : List (List ℕ)
  pub tells : List MessageValue
  pub sent : after.wire ≡ before.wire ++ bytes_of lines
  pub told : after.told ≡ before.told ++ tells
  pub for_whom : IsSentNext (who_of old) (known old).owed old.line.said now lines new.line.said
  pub told_whom : IsToldNext (known old) (known old).owed now lines tells
  pub owed : (known new).owed ≡ owed_answered (known old).owed now lines
  pub watches : new.watches.items ≡ watch_next (acting (who_of old)) (string_bytes old.line.last)
      (known old).owed old.watches.items
  pub table : new.table.items ≡ table_next (acting (who_of old)) (known old).owed old.table.items
  pub seats : new.line.seats.items ≡ seats_next (known old).owed now old.line.seats.items
  pub pairings : new.line.pairings.items ≡ pairings_next (known old).owed now old.line.pairings.items
  pub refused : new.line.refused.items ≡ refused_next (known old).owed now old.line.refused.items
  pub follows : following new.line.acted ≡ follows_next (known old).owed now (following old.line.acted)
  pub misnamed : new.line.is_misnamed ≡ misnamed_next (known old).owed now old.line.is_misnamed
  pub rests : IsElseSame old new
