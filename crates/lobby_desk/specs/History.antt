-- What is promised of whatever came in and went out.
use Rattle.std.specs.Prelude.{ℕ, ◌≡◌, ◌⊎◌, Bool, true, false, ◌&&◌, ◌||◌, ◌==◌, not, List, [], ◌∷◌, ◌++◌, codes, length}
use Rattle.std.specs.Prelude.{map, filter, Option, None, Some, is_some, if◌then◌else◌}
use Rattle.std.specs.List.{AllByRecursion}
use Rattle.player_name.specs.Name.{IsName}
use Rattle.lobby_words.specs.declared.words.Sort.{Sort}
use Rattle.lobby_words.specs.declared.words.Sort.TheVariants as sorts
use Rattle.lobby_words.specs.declared.planning.Identity.{Identity}
use Rattle.lobby_words.specs.declared.players.Player.{Player}
use Rattle.lobby_words.specs.Words.{rest_of, as_name, as_line, line_said, actor, black_name, pair_line, is_message}
use Rattle.lobby_words.specs.Words.{sort_of, is_act_sort, is_as_sort, is_pair_sort, is_drop_sort, is_name_sort}
use Rattle.lobby_words.specs.Words.{is_login_sort, is_link_sort, number_or_0}
use Rattle.lobby_words.specs.Players.{holder_of, known_name, renewed, IsChanged}
use Rattle.lobby_words.specs.Answers.{act_game, answer, is_entered, lone_player}
use Rattle.lobby_table.specs.Sending.{name_line, game_line, join_line, notice_lines}
use Rattle.lobby_players.specs.Halts.{Halted, found_texts}
use Rattle.lobby_desk.specs.Events.{DeskInput, Opened, Closed, Said, Heard, ServerTurned, Renewed, Linked, Found}
use Rattle.lobby_table.specs.Owed.{ForAct, Owed, Asker, Dropper, Pairer, Followers}
use Rattle.lobby_desk.specs.Events.{MessageValue, Following, asked_after, told_as}
use Rattle.lobby_words.specs.Naming.{takes_name}
use Rattle.lobby_table.specs.Refusals.{game_named, refused_game}
use Rattle.lobby_words.specs.declared.listing.Seat.{Seat}
use Rattle.lobby_table.specs.declared.pairings.Pairing.{Pairing}
use Rattle.lobby_table.specs.Pairings.{game_joined, IsFree, IsOffered}
use Rattle.lobby_desk.specs.Logging.{act_logged, is_of_act, one_if, log_texts}
use Rattle.lobby_desk.specs.Tellings.{Known, is_counted, known_now, pairings_now, open_now, call_said, change_said}
use Rattle.lobby_desk.specs.Tellings.{IsTold}
pub use Rattle.lobby_desk.specs.Tellings.{IsArbiter}
use Rattle.lobby_table.specs.Owed.{is_number}
use Rattle.lobby_table.specs.Visitors.{acting}
use Rattle.lobby_desk.specs.Who.{View, BeginsView, IsStep, may_drop, speaker, players_now, offers_now}
use Rattle.lobby_offers.specs.Offers.{Offered, accord_of}
use Rattle.lobby_words.specs.declared.planning.Accord.{Accord}
use Rattle.lobby_words.specs.declared.planning.Accord.TheVariants as accords

-- one event, the lines that went to the server for it, and what connections were told
pub record Step : Type 0 where
  pub event : DeskInput
  pub lines : List (List ℕ)
  pub tells : List MessageValue

-- what a message shows of a connection: the player who has its token, if it is a login and a player has
abbrev pub shown_by : Option Identity → Option Identity → Option Identity
shown_by None before = before
shown_by (Some who) before = Some who

abbrev pub player_said : List Player → List ℕ → Option Identity → Option Identity
player_said players text before =
    if is_message text && is_login_sort (sort_of text) then shown_by
    (holder_of players (rest_of text)) before else before

abbrev pub player_after : List Player → DeskInput → ℕ → Option Identity → Option Identity
player_after players (Opened d) c before = if d == c then None else before
player_after players (Closed d) c before = if d == c then None else before
player_after players (Said d text at) c before = if d == c then player_said players text before else before
player_after players (Renewed later) c before = renewed players later before
player_after players (Linked d text later token) c before = renewed players later before
player_after players _ c before = before

-- the players behind a past that began with these; the past is told from its newest step back
abbrev pub players_in : List Player → List Step → List Player
players_in players [] = players
players_in players (s ∷ past) = players_now s.event (players_in players past)

-- The player whose token connection c has shown, the last if several, since it came, as long as each list of players
-- since then has his name with the same sum.
abbrev pub player_in : List Player → List Step → ℕ → Option Identity
player_in players [] c = None
player_in players (s ∷ past) c = player_after (players_in players past) s.event c (player_in players past c)

-- a line says a name, is an act, is a `drop`; a message is `as NAME LINE`, is a pairing
abbrev pub says_name : List ℕ → Bool
says_name line = is_name_sort (sort_of line)

abbrev pub is_act : List ℕ → Bool
is_act line = is_act_sort (sort_of line)

abbrev pub is_drop : List ℕ → Bool
is_drop line = is_drop_sort (sort_of line)

abbrev pub is_as : List ℕ → Bool
is_as text = is_as_sort (sort_of text)

abbrev pub is_pairing : List ℕ → Bool
is_pairing text = is_pair_sort (sort_of text)

-- the name that was said last behind a line, and behind lines
abbrev pub name_behind : Option (List ℕ) → List ℕ → Option (List ℕ)
name_behind said line = if says_name line then Some (rest_of line) else said

abbrev pub name_through : Option (List ℕ) → List (List ℕ) → Option (List ℕ)
name_through said [] = said
name_through said (line ∷ lines) = name_through (name_behind said line) lines

-- none was said on a new connection to the server
abbrev pub name_before : DeskInput → Option (List ℕ) → Option (List ℕ)
name_before (ServerTurned is_here) said = None
name_before _ said = said

-- the name that was said last to the server behind all lines that went to it, on the connection that stands
abbrev pub name_in : List Step → Option (List ℕ)
name_in [] = None
name_in (s ∷ past) = name_through (name_before s.event (name_in past)) s.lines

-- each act among lines stands under this name
abbrev pub ActsUnder : Option (List ℕ) → List (List ℕ) → List ℕ → Type 0
ActsUnder said [] name = Unit {0}
ActsUnder said (line ∷ lines) name =
    (is_act line ≡ true → said ≡ Some name) × ActsUnder (name_behind said line) lines name

abbrev pub NoActs : List (List ℕ) → Type 0
NoActs lines = AllByRecursion (λ line. is_act line ≡ false) lines

abbrev pub NoDrops : List (List ℕ) → Type 0
NoDrops lines = AllByRecursion (λ line. is_drop line ≡ false) lines

-- What is offered behind a past: the pairing that each player has said last who is no arbiter and one of the two in it,
-- with the connection and the moment; until he or the other has said `unpair`, or one of them has said the pairing in
-- which the other agreed.
abbrev pub offers_in : List Player → List Step → List Offered
offers_in players [] = []
offers_in players (s ∷ past) =
    offers_now (players_in players past) (player_in players past) s.event (offers_in players past)

-- What a message at a moment is behind a past, between its player and another: two agree on a pairing where the one has
-- offered it and the other says the very same, while that stands.
abbrev pub accord_in : List Player → List Step → ℕ → List ℕ → ℕ → Accord
accord_in players past c text at =
    accord_of (players_in players past) (player_in players past) c text at (offers_in players past)

abbrev pub is_agreement : Accord → Bool
is_agreement accords.Agreed = true
is_agreement _ = false

-- The name under which the acts for a message may stand, where its connection has shown the token of this player: his
-- own; but for `as NAME LINE` that name, where he is an arbiter and a player has it, and else none; and for
-- `pair WHITE ..` that of White, where he is an arbiter, or the two agree, and a player has it, and else none. Without
-- a token there is none.
abbrev pub name_as : List Player → Bool → List ℕ → Option (List ℕ)
name_as players is_arbiter text = if is_arbiter then known_name players (as_name text) else None

abbrev pub name_for : List Player → Bool → Option Identity → List ℕ → Option (List ℕ)
name_for players agreed None text = None
name_for players agreed (Some who) text =
    if is_as text then name_as players who.is_arbiter text
    else (if is_pairing text then name_as players (who.is_arbiter || agreed) text else Some who.name)

-- The lines for a message: each act among them stands under this name; where there is none, none is an act.
abbrev pub ActsRight : Option (List ℕ) → Option (List ℕ) → List (List ℕ) → Type 0
ActsRight None said lines = NoActs lines
ActsRight (Some name) said lines = ActsUnder said lines name

-- What a message has the desk say to the server, by its sort and by the number behind its word: itself, or of
-- `as NAME LINE` the line, or of a pairing the line that opens its game; and right behind an act how the game stands
-- that it names, if it names one; or for the game or the table that it names what the server is asked; for all else
-- nothing.
abbrev pub sort_asks : Sort → ℕ → List ℕ → List (List ℕ)
sort_asks sorts.Read game text = text ∷ []
sort_asks sorts.Act game text = text ∷ notice_lines (game_named text)
sort_asks sorts.As game text = as_line text ∷ notice_lines (game_named text)
sort_asks sorts.Pair game text = pair_line text ∷ []
sort_asks sorts.Drop game text = game_line (codes "show ") game ∷ []
sort_asks sorts.Lobby game text = codes "list" ∷ []
sort_asks sorts.Watch game text = game_line (codes "show ") game ∷ game_line (codes "fen ") game ∷ []
sort_asks sorts.Line game text = game_line (codes "pgn ") game ∷ []
sort_asks _ game text = []

abbrev pub asks_of : List ℕ → List (List ℕ)
asks_of text = sort_asks (sort_of text) (number_or_0 (rest_of text)) text

-- Nothing goes out, or just this; before it a name may be said.
abbrev pub IsOf : List (List ℕ) → List (List ℕ) → Type 0
IsOf asks lines = (lines ≡ []) ⊎ (lines ≡ asks) ⊎ ((name : List ℕ) × (lines ≡ name_line name ∷ asks))

-- whether a connection is open behind a past
abbrev pub open_in : List Step → ℕ → Bool
open_in [] c = false
open_in (s ∷ past) c = open_now s.event c (open_in past c)

-- what is known of the connections and of the server behind a past
abbrev pub known_in : List Player → List Step → Known
known_in players [] =
    record {
      owed = [];
      left = 0;
      begun = [];
      last = [];
      watches = [];
      table = [];
      seats = [];
      pairings = [];
      refused = [];
      follows = None;
      misnamed = false;
    }
known_in players (s ∷ past) =
    known_now s.event (speaker (player_in players past) s.event) s.lines (acting (player_in players (s ∷ past)))
    (known_in players past)

-- Who acts so, an arbiter or one who agrees with the other player, may have a pairing made.
abbrev pub MayPair : Bool → Option Identity → Type 0
MayPair agreed who = IsArbiter who ⊎ (agreed ≡ true)

-- a connection that had shown a player's token has said this message, which asks for a drop
abbrev pub AsksNow : List Player → List Step → DeskInput → ℕ → List ℕ → Type 0
AsksNow players past (Said d said at) c text =
    (d ≡ c) × (said ≡ text) × (is_some (player_in players past c) ≡ true) × (is_message text ≡ true)
    × (is_drop text ≡ true)
AsksNow players past _ c text = ⊥

abbrev pub HasAsked : List Player → List Step → ℕ → List ℕ → Type 0
HasAsked players [] c text = ⊥
HasAsked players (s ∷ past) c text = AsksNow players past s.event c text ⊎ HasAsked players past c text

-- A drop goes out behind an answer of the server. It is the message of a connection that had shown a token when it said
-- it; the answer is the one for which this message waits, and shows the game with an empty seat, so that it waits for
-- its second player; and the drop stands under the name of the player who, as that answer says, has the other seat,
-- which is a name of the protocol. The token that the connection has shown is an arbiter's, or this very player's.
-- Right behind the drop it is asked how its game stands.
pub record IsDropOf (players : List Player) (past : List Step) (line : List ℕ) (lines : List (List ℕ)) : Type 0 where
  pub c : ℕ
  pub by : List ℕ
  pub text : List ℕ
  pub asked : HasAsked players past c text
  pub others : List Owed
  pub waits : (known_in players past).owed ≡ Dropper c by text ∷ others
  pub name : List ℕ
  pub named : IsName name
  pub alone : lone_player (answer (known_in players past).begun line) (rest_of text) ≡ Some name
  pub may : may_drop (player_in players past c) name ≡ true
  pub acts : ActsUnder (name_in past) lines name
  pub of_text : IsOf (text ∷ notice_lines (game_named text)) lines

-- Behind the server's answer to an act it is asked how the game stands that this answer names, if it names one of which
-- that was not asked right behind the act, as that of an `open` does.
pub record IsNoticeOf (players : List Player) (past : List Step) (line : List ℕ) (lines : List (List ℕ)) : Type 0 where
  pub c : ℕ
  pub by : List ℕ
  pub text : List ℕ
  pub others : List Owed
  pub waits : (known_in players past).owed ≡ Asker c (ForAct by text) ∷ others
  pub lines_are : lines ≡ notice_lines (asked_after text (act_game (answer (known_in players past).begun line)))

-- A connection that had shown an arbiter's token has said this message, a pairing in which Black is this player; or one
-- of a player has, and the two agreed on it.
abbrev pub PairsNow : List Player → List Step → DeskInput → ℕ → List ℕ → List ℕ → Type 0
PairsNow players past (Said d said at) c black text =
    (d ≡ c) × (said ≡ text) × MayPair (is_agreement (accord_in players past c text at)) (player_in players past c)
    × (is_message text ≡ true) × (is_pairing text ≡ true)
    × (known_name (players_in players past) (black_name text) ≡ Some black)
PairsNow players past _ c black text = ⊥

abbrev pub HasPaired : List Player → List Step → ℕ → List ℕ → List ℕ → Type 0
HasPaired players [] c black text = ⊥
HasPaired players (s ∷ past) c black text =
    PairsNow players past s.event c black text ⊎ HasPaired players past c black text

-- Behind the server's answer to the opening of a pairing, which a connection had said that had shown an arbiter's
-- token, or on which its two players had agreed, Black joins the game that this answer names: under the name that the
-- message has for Black, which was a player's.
pub record IsJoinOf (players : List Player) (past : List Step) (line : List ℕ) (lines : List (List ℕ)) : Type 0 where
  pub c : ℕ
  pub by : List ℕ
  pub black : List ℕ
  pub text : List ℕ
  pub paired : HasPaired players past c black text
  pub others : List Owed
  pub waits : (known_in players past).owed ≡ Pairer c by black text ∷ others
  pub game : ℕ
  pub opened : act_game (answer (known_in players past).begun line) ≡ Some game
  pub acts : ActsUnder (name_in past) lines black
  pub of_game : IsOf (join_line game ∷ []) lines

-- whether a connection of this number has come
abbrev pub comes : DeskInput → ℕ → Bool
comes (Opened d) c = d == c
comes _ c = false

abbrev pub has_come : List Step → ℕ → Bool
has_come [] c = false
has_come (s ∷ past) c = comes s.event c || has_come past c

-- What goes out for an event; for a message no `drop` does. A connection that comes has a number that none had before.
-- A link is changed, or a player added, for a message of an arbiter's that asks for that; the players are then those
-- before, but that the one whom the message names has its token, which nobody had, or is a player more, with it.
abbrev pub IsRight : List Player → List Step → DeskInput → List (List ℕ) → Type 0
IsRight players past (Said c text at) lines =
    ActsRight (name_for (players_in players past) (is_agreement (accord_in players past c text at))
    (player_in players past c) text) (name_in past) lines
    × NoDrops lines × IsOf (asks_of text) lines
IsRight players past (Heard line) lines =
    (lines ≡ []) ⊎ IsNoticeOf players past line lines ⊎ IsDropOf players past line lines
    ⊎ IsJoinOf players past line lines
IsRight players past (Opened c) lines = (lines ≡ []) × (has_come past c ≡ false)
IsRight players past (Linked c text later token) lines =
    (lines ≡ []) × IsArbiter (player_in players past c) × (is_message text ≡ true)
    × (is_link_sort (sort_of text) ≡ true)
    × IsChanged text token (players_in players past) later
IsRight players past _ lines = lines ≡ []

-- a line that has 1 to 255 bytes, each of them 32 to 126, so that no line feed is in it
abbrev pub AreWhole : List (List ℕ) → Type 0
AreWhole lines = AllByRecursion (λ line. is_message line ≡ true) lines

-- at each step
abbrev pub AllRight : List Player → List Step → Type 0
AllRight players [] = Unit {0}
AllRight players (s ∷ past) = IsRight players past s.event s.lines × AreWhole s.lines × AllRight players past

-- at each step, by what came and went before it
abbrev pub AllTold : List Player → List Step → Type 0
AllTold players [] = Unit {0}
AllTold players (s ∷ past) =
    IsTold s.event s.lines s.tells (open_in past) (player_in players past) (known_in players past)
    × AllTold players past

-- The lines for an event, under the name that holds before each: none joins a game that is kept for another. A game is
-- kept for Black from the server's answer to the opening of its pairing until that to its join, or its drop.
abbrev pub AreFree : List Pairing → Option (List ℕ) → List (List ℕ) → Type 0
AreFree pairings said [] = Unit {0}
AreFree pairings said (line ∷ lines) =
    IsFree pairings said (game_joined line) × AreFree pairings (name_behind said line) lines

-- those for a message join no game but one that the server's answers told as waiting
abbrev pub AreOffered : DeskInput → List Seat → List (List ℕ) → Type 0
AreOffered (Said c text at) seats lines = AllByRecursion (λ line. IsOffered seats (game_joined line)) lines
AreOffered _ seats lines = Unit {0}

abbrev pub AllPaired : List Player → List Step → Type 0
AllPaired players [] = Unit {0}
AllPaired players (s ∷ past) =
    AreFree (pairings_now s.event (known_in players past)) (name_before s.event (name_in past)) s.lines
    × AreOffered s.event (known_in players past).seats s.lines × AllPaired players past

-- a desk that begins with these players, with this halted and announced, and steps of it
abbrev pub IsRun : List Player → Halted → List Step → View → Type 0
IsRun players at_first [] now = BeginsView at_first now
IsRun players at_first (s ∷ past) now =
    (before : View) × IsRun players at_first past before
    × IsStep (players_in players past) before s.event s.lines s.tells now

-- an act that the server answered: the message, and the server's whole answer
pub record Acted : Type 0 where
  pub text : List ℕ
  pub answer : List ℕ

-- the act that an answer is to, by whose it is
abbrev pub acted_for : Owed → List ℕ → List Acted
acted_for (Asker c (ForAct by text)) now = record { text = text; answer = now } ∷ []
acted_for (Pairer c by black text) now = record { text = text; answer = now } ∷ []
acted_for _ now = []

abbrev pub acted_next : List Owed → List ℕ → List Acted
acted_next [] now = []
acted_next (o ∷ owed) now = acted_for o now

abbrev pub acted_now : DeskInput → Known → List Acted
acted_now (Heard line) k = if is_counted k line then acted_next k.owed (answer k.begun line) else []
acted_now _ k = []

-- The acts that the server answered, the newest first. An act is among them once its answer has come, with all its
-- lines.
abbrev pub acted_in : List Player → List Step → List Acted
acted_in players [] = []
acted_in players (s ∷ past) = acted_now s.event (known_in players past) ++ acted_in players past

-- whether an act was accepted in a game, and whether it was refused there, of who plays in it
abbrev pub accepts : ℕ → Acted → Bool
accepts game act = is_entered act.answer && is_number game (act_game act.answer)

abbrev pub refuses : ℕ → Acted → Bool
refuses game act = is_number game (refused_game act.text act.answer)

-- the acts since one was accepted in a game
abbrev pub since : ℕ → List Acted → List Acted
since game [] = []
since game (act ∷ acts) = if accepts game act then [] else act ∷ since game acts

-- how many acts were refused in a game since one was accepted there
abbrev pub refused_since : Option ℕ → List Acted → ℕ
refused_since None acts = 0
refused_since (Some game) acts = length (filter (refuses game) (since game acts))

-- an act that the server accepted: whose it is, the message, the server's whole answer, and how many acts were refused
-- in its game since one was accepted there
pub record Accepted : Type 0 where
  pub by : List ℕ
  pub text : List ℕ
  pub answer : List ℕ
  pub refused : ℕ

-- the act that the server accepts by an answer, by whose that is, behind these acts
abbrev pub accepted_for : List Acted → Owed → List ℕ → List Accepted
accepted_for acts (Asker c (ForAct by text)) now =
    one_if (is_entered now) (record {
      by = by;
      text = text;
      answer = now;
      refused = refused_since (act_game now) acts;
    })
accepted_for acts (Pairer c by black text) now =
    one_if (is_entered now) (record {
      by = by;
      text = text;
      answer = now;
      refused = refused_since (act_game now) acts;
    })
accepted_for acts _ now = []

abbrev pub accepted_next : List Acted → List Owed → List ℕ → List Accepted
accepted_next acts [] now = []
accepted_next acts (o ∷ owed) now = accepted_for acts o now

abbrev pub accepted_now : List Acted → DeskInput → Known → List Accepted
accepted_now acts (Heard line) k = if is_counted k line then accepted_next acts k.owed (answer k.begun line) else []
accepted_now acts _ k = []

-- The acts that the server accepted, in the order of its answers. An act is among them once its answer has come, with
-- all its lines: what the server accepted, but the connection broke before the answer came, is not.
abbrev pub accepted_in : List Player → List Step → List Accepted
accepted_in players [] = []
accepted_in players (s ∷ past) =
    accepted_in players past ++ accepted_now (acted_in players past) s.event (known_in players past)

-- What the log is to have of an answer, by whose it is, behind these acts: the act that the server accepts by it; or
-- how the game of such an act stands, as the answer to `show` says, which stands before that to `fen`.
abbrev pub entries_for : List Acted → List ℕ → Owed → List ℕ → List (List ℕ)
entries_for acts before (Asker c (ForAct by text)) now =
    one_if (is_entered now) (act_logged by text now (refused_since (act_game now) acts))
entries_for acts before (Pairer c by black text) now =
    one_if (is_entered now) (act_logged by text now (refused_since (act_game now) acts))
entries_for acts before (Followers game act is_table) now = one_if (not (is_of_act before)) before
entries_for acts before _ now = []

abbrev pub entries_next : List Acted → List ℕ → Option Following → List Owed → List ℕ → List (List ℕ)
entries_next acts before follows [] now = []
entries_next acts before follows (o ∷ owed) now = entries_for acts before (told_as follows o) now

abbrev pub entries_now : List Acted → DeskInput → Known → List (List ℕ)
entries_now acts (Heard line) k =
    if is_counted k line then entries_next acts k.last k.follows k.owed (answer k.begun line) else []
entries_now acts _ k = []

-- What the log is to have of a message that asks for nothing of the server, by whom it is, where the log is told
-- anything for it, as of an arbiter's of which everybody is told (`AreToldSome`): him and the message; where the
-- players' file was changed the same, always; and that clocks were stopped by hand, or have to run (`found_texts`). It
-- is none of an act.
abbrev pub call_entry : Sort → List ℕ → List ℕ → List (List ℕ)
call_entry (sorts.Call call) by text = call_said call by text ∷ []
call_entry _ by text = []

abbrev pub entry_said : List (List ℕ) → Sort → List ℕ → List ℕ → List (List ℕ)
entry_said [] sort by text = []
entry_said (told ∷ more) sort by text = call_entry sort by text

abbrev pub said_entries : DeskInput → List ℕ → List MessageValue → List (List ℕ)
said_entries (Said c text at) by tells = entry_said (log_texts tells) (sort_of text) by text
said_entries (Linked c text players token) by tells = change_said by text ∷ []
said_entries (Found finding) by tells = found_texts finding
said_entries _ by tells = []

abbrev pub entries_in : List Player → List Step → List (List ℕ)
entries_in players [] = []
entries_in players (s ∷ past) =
    entries_in players past
    ++ (said_entries s.event (speaker (player_in players past) s.event) s.tells
    ++ entries_now (acted_in players past) s.event (known_in players past))

-- the texts that the log was told, in their order
abbrev pub logged_in : List Step → List (List ℕ)
logged_in [] = []
logged_in (s ∷ past) = logged_in past ++ log_texts s.tells

-- The log was told these, each once and in their order, and nothing else. Its texts of acts are those of all accepted
-- acts: who did it, the act, the server's whole answer, and how many acts were refused in its game before it.
abbrev pub accepted_text : Accepted → List ℕ
accepted_text act = act_logged act.by act.text act.answer act.refused

abbrev pub IsLogged : List Player → List Step → Type 0
IsLogged players steps =
    (logged_in steps ≡ entries_in players steps)
    × (filter is_of_act (logged_in steps) ≡ map accepted_text (accepted_in players steps))

-- a line that went to the server, and the name that was said last before it
pub record Sent : Type 0 where
  pub line : List ℕ
  pub under : Option (List ℕ)

abbrev pub sent_under : Option (List ℕ) → List (List ℕ) → List Sent
sent_under said [] = []
sent_under said (line ∷ lines) = record { line = line; under = said } ∷ sent_under (name_behind said line) lines

-- the lines behind the first
abbrev pub but_first : List Sent → List Sent
but_first [] = []
but_first (s ∷ sent) = sent

-- The lines that went to the server on the connection that stands, and that it has not answered, the oldest first: it
-- answers each line, in the order in which they went to it.
abbrev pub unanswered_now : DeskInput → Known → List Sent → List Sent
unanswered_now (Heard line) k sent = if is_counted k line then but_first sent else sent
unanswered_now (ServerTurned is_here) k sent = []
unanswered_now _ k sent = sent

abbrev pub unanswered_in : List Player → List Step → List Sent
unanswered_in players [] = []
unanswered_in players (s ∷ past) =
    unanswered_now s.event (known_in players past) (unanswered_in players past)
    ++ sent_under (name_before s.event (name_in past)) s.lines

-- The name that holds at the server behind its answer to a line, as that answer shows: behind `ok name NAME` to
-- `name NAME` that one, behind another answer to such a line none, and behind any other line the one before.
abbrev pub shown_behind : Option (List ℕ) → List ℕ → List ℕ → Option (List ℕ)
shown_behind shown line now =
    if says_name line then (if takes_name (rest_of line) now then Some (rest_of line) else None) else shown

abbrev pub shown_next : Option (List ℕ) → List Sent → List ℕ → Option (List ℕ)
shown_next shown [] now = shown
shown_next shown (s ∷ sent) now = shown_behind shown s.line now

abbrev pub shown_now : DeskInput → Known → List Sent → Option (List ℕ) → Option (List ℕ)
shown_now (Heard line) k sent shown = if is_counted k line then shown_next shown sent (answer k.begun line) else shown
shown_now (ServerTurned is_here) k sent shown = None
shown_now _ k sent shown = shown

-- the name that holds at the server, as its answers on the connection that stands show; none before it has taken one
abbrev pub shown_in : List Player → List Step → Option (List ℕ)
shown_in players [] = None
shown_in players (s ∷ past) =
    shown_now s.event (known_in players past) (unanswered_in players past) (shown_in players past)

-- Which line goes for an act of this player's message, and under which name: that is his own message, of `as NAME LINE`
-- the LINE and that NAME; of a `drop` the name of who waits in its game (`IsDropOf`); and of a pairing, once its game
-- is opened, the line that joins it, and the name of Black.
abbrev pub IsLineIf : Bool → List ℕ → List ℕ → Type 0
IsLineIf true text line = (game : ℕ) × (line ≡ join_line game)
IsLineIf false text line = line ≡ line_said text

abbrev pub IsLineOf : List ℕ → List ℕ → Type 0
IsLineOf text line = IsLineIf (is_pairing text) text line

abbrev pub IsNameIf : Bool → List ℕ → List ℕ → List ℕ → Type 0
IsNameIf true by text name = name ≡ black_name text
IsNameIf false by text name = is_drop text ≡ false → name ≡ actor by text

abbrev pub IsNameOf : List ℕ → List ℕ → List ℕ → Type 0
IsNameOf by text name = IsNameIf (is_pairing text) by text name

-- An answer to an act counts where it is the answer to that very act's line, the first that has none; and where the
-- server's answers before it show that at it the very name holds that was said last before that line went out, under
-- which the act stands.
pub record IsOfAct (IsLine IsName : List ℕ → Type 0) (sent : List Sent) (shown : Option (List ℕ)) : Type 0 where
  pub line : List ℕ
  pub name : List ℕ
  pub others : List Sent
  pub first : sent ≡ record { line = line; under = Some name } ∷ others
  pub act : is_act line ≡ true
  pub of_text : IsLine line
  pub named : IsName name
  pub holds : shown ≡ Some name

-- The line that opens the game of a pairing stands under White's name.
abbrev pub IsOfOwed : Owed → List Sent → Option (List ℕ) → Type 0
IsOfOwed (Asker c (ForAct by text)) sent shown = IsOfAct (IsLineOf text) (IsNameOf by text) sent shown
IsOfOwed (Pairer c by black text) sent shown =
    IsOfAct (λ line. line ≡ pair_line text) (λ name. name ≡ as_name text) sent shown
IsOfOwed _ sent shown = Unit {0}

abbrev pub IsOfNext : List Owed → List Sent → Option (List ℕ) → Type 0
IsOfNext [] sent shown = Unit {0}
IsOfNext (o ∷ owed) sent shown = IsOfOwed o sent shown

abbrev pub IsOfHeard : Bool → List Owed → List Sent → Option (List ℕ) → Type 0
IsOfHeard false owed sent shown = Unit {0}
IsOfHeard true owed sent shown = IsOfNext owed sent shown

abbrev pub IsOfName : DeskInput → Known → List Sent → Option (List ℕ) → Type 0
IsOfName (Heard line) k sent shown = IsOfHeard (is_counted k line) k.owed sent shown
IsOfName _ k sent shown = Unit {0}

-- at each step, by what came and went before it
abbrev pub AllNamed : List Player → List Step → Type 0
AllNamed players [] = Unit {0}
AllNamed players (s ∷ past) =
    IsOfName s.event (known_in players past) (unanswered_in players past) (shown_in players past)
    × AllNamed players past
