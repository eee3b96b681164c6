-- What a plan leaves and tells.
use Rattle.std.proofs.Common.{ℕ, ◌≡◌, inl, inr, Bool, true, false, ◌&&◌, not, List, [], ◌∷◌, Option, None, Some, refl, sym, ap, ◌∙◌, subst}
use Rattle.std.specs.Prelude.{if◌then◌else◌, is_some}
use Rattle.std.proofs.lemmas.Bool.{false≢true}
use Rattle.lobby_words.specs.declared.words.Sort.{Sort}
use Rattle.lobby_words.specs.declared.words.Sort.TheVariants as sorts
use Rattle.lobby_words.specs.declared.refusals.Refusal.{Refusal}
use Rattle.lobby_words.specs.declared.refusals.Refusal.TheVariants as refusals
use Rattle.lobby_words.specs.declared.planning.Order.{Order}
use Rattle.lobby_words.specs.declared.planning.Change.{Change}
use Rattle.lobby_words.specs.declared.planning.Change.TheVariants as changes
use Rattle.lobby_words.specs.declared.planning.Newcomer.{Newcomer}
use Rattle.lobby_words.specs.declared.planning.Newcomer.TheVariants as newcomers
use Rattle.lobby_players.specs.Joining.{newcomer_said}
use Rattle.lobby_players.proofs.Newcomer.{new_name}
use Rattle.lobby_words.specs.declared.words.Call.{Call}
use Rattle.lobby_words.specs.declared.planning.Accord.{Accord}
use Rattle.lobby_words.specs.declared.planning.Accord.TheVariants as accords
use Rattle.lobby_words.specs.declared.listing.Seat.{Seat}
use Rattle.lobby_words.specs.declared.planning.Plan.{Plan}
use Rattle.lobby_words.specs.declared.planning.Plan.TheVariants as plans
use Rattle.lobby_words.specs.declared.planning.Standing.{Standing}
use Rattle.lobby_words.specs.declared.planning.Identity.{Identity}
use Rattle.lobby_words.specs.declared.players.Player.{Player}
use Rattle.lobby_table.specs.declared.watching.Watch.{Watch}
use Rattle.lobby_words.specs.Words.{rest_of, as_name, as_line, black_name, pair_line, is_message, sort_of, is_pair_sort, is_unpair_sort, is_link_sort, is_close_sort, is_player_sort, full_said, is_login_sort, is_leave_sort, is_leave_lobby_sort, or_0}
use Rattle.lobby_words.specs.Plans.{asked, barred, entered_plan, act_plan, named_plan, as_plan, black_plan, white_plan, agreed_plan, offered_plan, pair_plan, arbiter_plan, order_plan, newcomer_plan, closes, adds, login_plan, order_of, numbered_plan, sort_plan, stranger_plan, who_plan, plan_of}
use Rattle.lobby_desk.specs.Lines.{lines_of, is_said}
use Rattle.lobby_table.specs.Sending.{act_lines, name_line, notice_lines}
use Rattle.lobby_table.specs.Refusals.{game_named}
use Rattle.lobby_desk.specs.Events.{MessageValue, Said, plan_asker, sort_asker}
use Rattle.lobby_table.specs.Owed.{ForItself, ForPositions, ForTable, ForGame, ForAct, Owed, Asker, Dropper, Pairer}
use Rattle.lobby_table.specs.Owed.{owed_lines}
use Rattle.lobby_table.specs.Watching.{risen}
use Rattle.lobby_desk.specs.Tellings.{left_game, IsToldOrSent}
use Rattle.lobby_offers.specs.Offers.{Offered, is_party, other_party, is_agreed, may_offer, accord_by, but_by, parted, accord_noted, ends_offers, pairs_at_once, offers_said}
use Rattle.lobby_desk.specs.Who.{View, name_of, who_noted, plan_watches, plan_table, IsAnswered, offers_now}
use Rattle.lobby_words.specs.Players.{known_name, IsRelinked, IsJoined, IsChangedIf, IsChanged, IsCarriedIf, IsCarriedOut}
use Rattle.lobby_desk.specs.History.{IsArbiter}
use Rattle.lobby_words.proofs.ByName.{named_is}

-- whose the answer to a plan's last line is
abbrev pub LastIs : Plan → Option (List ℕ) → List ℕ → ℕ → Owed → Type 0
LastIs plan said text c o = owed_lines (plan_asker plan c text) (lines_of plan said text) ≡ owed_lines o (lines_of plan said text)

asked_last : (s : Standing) (plan : Plan) (said : Option (List ℕ)) (text : List ℕ) (c : ℕ) (o : Owed) → LastIs plan said text c o →
    LastIs (asked s plan) said text c o
asked_last s plan said text c o h =
    elim s.is_here as (λ b. LastIs (if b then plan else plans.Refuse refusals.NoServer) said text c o) [ true ↦ h | false ↦ refl ]

barred_last : (bar : Option Refusal) (plan : Plan) (said : Option (List ℕ)) (text : List ℕ) (c : ℕ) (o : Owed) → LastIs plan said text c o →
    LastIs (barred bar plan) said text c o
barred_last None plan said text c o h = h
barred_last (Some refusal) plan said text c o h = refl

entered_last : (s : Standing) (plan : Plan) (said : Option (List ℕ)) (text : List ℕ) (c : ℕ) (o : Owed) → LastIs plan said text c o →
    LastIs (entered_plan s plan) said text c o
entered_last s plan said text c o h = asked_last s (barred s.bar plan) said text c o (barred_last s.bar plan said text c o h)

act_last : (s : Standing) (who : Identity) (said : Option (List ℕ)) (text : List ℕ) (c : ℕ) → LastIs (act_plan s who) said text c (Asker c (ForAct who.name text))
act_last s who said text c =
    elim (s.is_paused && not who.is_arbiter) as (λ b. LastIs (if b then plans.Refuse refusals.EntriesPaused else entered_plan s (plans.Act who)) said text c (Asker c (ForAct who.name text))) [
      | true ↦ refl
      | false ↦ entered_last s (plans.Act who) said text c (Asker c (ForAct who.name text)) refl
    ]

named_last : (s : Standing) (who : Identity) (named : Option (List ℕ)) (said : Option (List ℕ)) (text : List ℕ) (c : ℕ) →
    LastIs (named_plan s who named) said text c (Asker c (ForAct who.name text))
named_last s who None said text c = refl
named_last s who (Some name) said text c = entered_last s (plans.ActAs who name) said text c (Asker c (ForAct who.name text)) refl

as_last : (s : Standing) (who : Identity) (said : Option (List ℕ)) (text : List ℕ) (c : ℕ) → LastIs (as_plan s who) said text c (Asker c (ForAct who.name text))
as_last s who said text c =
    elim who.is_arbiter as (λ b. LastIs (if b then named_plan s who s.named else plans.Refuse refusals.NotArbiter) said text c (Asker c (ForAct who.name text))) [
      | true ↦ named_last s who s.named said text c
      | false ↦ refl
    ]

black_last : (players : List Player) (s : Standing) (who : Identity) (white : List ℕ) (black said : Option (List ℕ)) (text : List ℕ) (c : ℕ) →
    black ≡ known_name players (black_name text) → LastIs (black_plan s who white black) said text c (Pairer c who.name (black_name text) text)
black_last players s who white None said text c same = refl
black_last players s who white (Some black) said text c same =
    asked_last s (plans.Pair who white black) said text c (Pairer c who.name (black_name text) text)
    (ap (λ (b : List ℕ). owed_lines (Pairer c who.name b text) (act_lines said white (pair_line text) None))
    (sym (named_is players (black_name text) black (sym same))))

white_last : (players : List Player) (s : Standing) (who : Identity) (white said : Option (List ℕ)) (text : List ℕ) (c : ℕ) →
    s.black ≡ known_name players (black_name text) → LastIs (white_plan s who white) said text c (Pairer c who.name (black_name text) text)
white_last players s who None said text c same = refl
white_last players s who (Some white) said text c same = black_last players s who white s.black said text c same

-- a pairing of who is no arbiter
agreed_last : (players : List Player) (s : Standing) (who : Identity) (said : Option (List ℕ)) (text : List ℕ) (c : ℕ) →
    s.black ≡ known_name players (black_name text) → LastIs (agreed_plan s who) said text c (Pairer c who.name (black_name text) text)
agreed_last players s who said text c same =
    elim s.is_paused as (λ b. LastIs (if b then plans.Refuse refusals.EntriesPaused else barred s.pair_bar (white_plan s who s.named)) said text c (Pairer c who.name (black_name text) text)) [
      | true ↦ refl
      | false ↦ barred_last s.pair_bar (white_plan s who s.named) said text c (Pairer c who.name (black_name text) text)
          (white_last players s who s.named said text c same)
    ]

offered_last : (players : List Player) (s : Standing) (who : Identity) (accord : Accord) (said : Option (List ℕ)) (text : List ℕ) (c : ℕ) →
    s.black ≡ known_name players (black_name text) → LastIs (offered_plan s who accord) said text c (Pairer c who.name (black_name text) text)
offered_last players s who accords.Nothing said text c same = refl
offered_last players s who accords.Offered said text c same = refl
offered_last players s who accords.Agreed said text c same = agreed_last players s who said text c same

pair_last : (players : List Player) (s : Standing) (who : Identity) (said : Option (List ℕ)) (text : List ℕ) (c : ℕ) →
    s.black ≡ known_name players (black_name text) → LastIs (pair_plan s who) said text c (Pairer c who.name (black_name text) text)
pair_last players s who said text c same =
    elim who.is_arbiter as (λ b. LastIs (if b then white_plan s who s.named else offered_plan s who s.accord) said text c (Pairer c who.name (black_name text) text)) [
      | true ↦ white_last players s who s.named said text c same
      | false ↦ offered_last players s who s.accord said text c same
    ]

arbiter_last : (who : Identity) (plan : Plan) (said : Option (List ℕ)) (text : List ℕ) (c : ℕ) → LastIs plan said text c (Asker c ForItself) →
    LastIs (arbiter_plan who plan) said text c (Asker c ForItself)
arbiter_last who plan said text c h =
    elim who.is_arbiter as (λ b. LastIs (if b then plan else plans.Refuse refusals.NotArbiter) said text c (Asker c ForItself)) [ true ↦ h | false ↦ refl ]

order_last : (change : Change) (linked : Option (List ℕ)) (said : Option (List ℕ)) (text : List ℕ) (c : ℕ) →
    LastIs (order_plan change linked) said text c (Asker c ForItself)
order_last change None said text c = refl
order_last change (Some name) said text c = refl

newcomer_last : (newcomer : Newcomer) (said : Option (List ℕ)) (text : List ℕ) (c : ℕ) →
    LastIs (newcomer_plan newcomer) said text c (Asker c ForItself)
newcomer_last newcomers.BadName said text c = refl
newcomer_last (newcomers.Taken name) said text c = refl
newcomer_last newcomers.BadFullName said text c = refl
newcomer_last (newcomers.New name) said text c = refl

login_last : (holder : Option Identity) (said : Option (List ℕ)) (text : List ℕ) (c : ℕ) (o : Owed) → LastIs (login_plan holder) said text c o
login_last None said text c o = refl
login_last (Some who) said text c o = refl

numbered_last : (s : Standing) (who : Identity) (game : Option ℕ) (said : Option (List ℕ)) (text : List ℕ) (c : ℕ) →
    LastIs (numbered_plan sorts.Drop s who game) said text c (Dropper c who.name text)
numbered_last s who None said text c = refl
numbered_last s who (Some game) said text c = asked_last s (plans.Drop who game) said text c (Dropper c who.name text) refl

watch_last : (s : Standing) (who : Identity) (game : Option ℕ) (said : Option (List ℕ)) (text : List ℕ) (c : ℕ) →
    LastIs (numbered_plan sorts.Watch s who game) said text c (Asker c (ForGame (or_0 game)))
watch_last s who None said text c = refl
watch_last s who (Some game) said text c =
    elim s.is_full as (λ b. LastIs (if b then asked s (plans.Refuse refusals.TooManyWatched) else asked s (plans.Watch game)) said text c (Asker c (ForGame game))) [
      | true ↦ asked_last s (plans.Refuse refusals.TooManyWatched) said text c (Asker c (ForGame game)) refl
      | false ↦ asked_last s (plans.Watch game) said text c (Asker c (ForGame game)) refl
    ]

leave_last : (s : Standing) (who : Identity) (game : Option ℕ) (said : Option (List ℕ)) (text : List ℕ) (c : ℕ) →
    LastIs (numbered_plan sorts.Leave s who game) said text c (Asker c ForItself)
leave_last s who None said text c = refl
leave_last s who (Some game) said text c = refl

room_last : (s : Standing) (who : Identity) (game : Option ℕ) (said : Option (List ℕ)) (text : List ℕ) (c : ℕ) →
    LastIs (numbered_plan sorts.Room s who game) said text c (Asker c ForItself)
room_last s who None said text c = refl
room_last s who (Some game) said text c = refl

line_last : (s : Standing) (who : Identity) (game : Option ℕ) (said : Option (List ℕ)) (text : List ℕ) (c : ℕ) →
    LastIs (numbered_plan sorts.Line s who game) said text c (Asker c ForPositions)
line_last s who None said text c = refl
line_last s who (Some game) said text c = asked_last s (plans.Line game) said text c (Asker c ForPositions) refl

sorted_last : (players : List Player) (sort : Sort) (s : Standing) (who : Identity) (game : Option ℕ) (said : Option (List ℕ)) (text : List ℕ) (c : ℕ) →
    s.black ≡ known_name players (black_name text) → LastIs (sort_plan sort s who game) said text c (sort_asker sort game c who.name text)
sorted_last players sorts.Read s who game said text c same = asked_last s plans.Read said text c (Asker c ForItself) refl
sorted_last players sorts.Act s who game said text c same = act_last s who said text c
sorted_last players sorts.As s who game said text c same = as_last s who said text c
sorted_last players sorts.Pair s who game said text c same = pair_last players s who said text c same
sorted_last players sorts.Unpair s who game said text c same = refl
sorted_last players sorts.Offers s who game said text c same = refl
sorted_last players sorts.Drop s who game said text c same = numbered_last s who game said text c
sorted_last players sorts.Login s who game said text c same = login_last s.holder said text c (Asker c ForItself)
sorted_last players sorts.Players s who game said text c same = refl
sorted_last players sorts.Who s who game said text c same = refl
sorted_last players sorts.Pause s who game said text c same = arbiter_last who plans.Pause said text c refl
sorted_last players sorts.Resume s who game said text c same = arbiter_last who plans.Resume said text c refl
sorted_last players (sorts.Call call) s who game said text c same =
    arbiter_last who (barred s.bar (plans.Call call)) said text c
    (barred_last s.bar (plans.Call call) said text c (Asker c ForItself) refl)
sorted_last players sorts.Link s who game said text c same =
    arbiter_last who (order_plan changes.NewLink s.linked) said text c (order_last changes.NewLink s.linked said text c)
sorted_last players sorts.Close s who game said text c same =
    arbiter_last who (order_plan changes.NoLink s.linked) said text c (order_last changes.NoLink s.linked said text c)
sorted_last players sorts.Player s who game said text c same =
    arbiter_last who (newcomer_plan s.newcomer) said text c (newcomer_last s.newcomer said text c)
sorted_last players sorts.Lobby s who game said text c same = asked_last s plans.Lobby said text c (Asker c ForTable) refl
sorted_last players sorts.LeaveLobby s who game said text c same = refl
sorted_last players sorts.Watch s who game said text c same = watch_last s who game said text c
sorted_last players sorts.Leave s who game said text c same = leave_last s who game said text c
sorted_last players sorts.Line s who game said text c same = line_last s who game said text c
sorted_last players sorts.Room s who game said text c same = room_last s who game said text c
sorted_last players sorts.Moves s who game said text c same = refl
sorted_last players sorts.Name s who game said text c same = refl
sorted_last players sorts.Nothing s who game said text c same = refl

-- nothing goes out for who acts for nobody
stranger_last : (b : Bool) (s : Standing) (said : Option (List ℕ)) (text : List ℕ) (c : ℕ) (o : Owed) → LastIs (stranger_plan b s) said text c o
stranger_last true s said text c o = login_last s.holder said text c o
stranger_last false s said text c o = refl

who_last : (players : List Player) (who : Option Identity) (sort : Sort) (s : Standing) (game : Option ℕ) (said : Option (List ℕ)) (text : List ℕ) (c : ℕ) →
    s.black ≡ known_name players (black_name text) → LastIs (who_plan who sort s game) said text c (sort_asker sort game c (name_of who) text)
who_last players None sort s game said text c same =
    stranger_last (is_login_sort sort) s said text c (sort_asker sort game c (name_of None) text)
who_last players (Some who) sort s game said text c same = sorted_last players sort s who game said text c same

pub planned_last : (players : List Player) (m : Bool) (sort : Sort) (s : Standing) (game : Option ℕ) (said : Option (List ℕ)) (text : List ℕ) (c : ℕ) →
    s.black ≡ known_name players (black_name text) → LastIs (plan_of m sort s game) said text c (sort_asker sort game c (name_of s.who) text)
planned_last players false sort s game said text c same = refl
planned_last players true sort s game said text c same = who_last players s.who sort s game said text c same

-- what each plan does that may be for a message
pub asked_does : (P : Plan → Type 0) (s : Standing) (plan : Plan) → P (plans.Refuse refusals.NoServer) → P plan → P (asked s plan)
asked_does P s plan none h = elim s.is_here as (λ b. P (if b then plan else plans.Refuse refusals.NoServer)) [ true ↦ h | false ↦ none ]

pub barred_does : (P : Plan → Type 0) (bar : Option Refusal) (plan : Plan) → ((r : Refusal) → P (plans.Refuse r)) → P plan → P (barred bar plan)
barred_does P None plan none h = h
barred_does P (Some refusal) plan none h = none refusal

pub entered_does : (P : Plan → Type 0) (s : Standing) (plan : Plan) → ((r : Refusal) → P (plans.Refuse r)) → P plan → P (entered_plan s plan)
entered_does P s plan none h = asked_does P s (barred s.bar plan) (none refusals.NoServer) (barred_does P s.bar plan none h)

pub act_does : (P : Plan → Type 0) (s : Standing) (who : Identity) → ((r : Refusal) → P (plans.Refuse r)) → ((one : Identity) → P (plans.Act one)) →
    P (act_plan s who)
act_does P s who none h =
    elim (s.is_paused && not who.is_arbiter) as (λ b. P (if b then plans.Refuse refusals.EntriesPaused else entered_plan s (plans.Act who))) [
      | true ↦ none refusals.EntriesPaused
      | false ↦ entered_does P s (plans.Act who) none (h who)
    ]

named_does : (P : Plan → Type 0) (s : Standing) (who : Identity) (named : Option (List ℕ)) → ((r : Refusal) → P (plans.Refuse r)) →
    ((name : List ℕ) → P (plans.ActAs who name)) → P (named_plan s who named)
named_does P s who None none h = none refusals.NoPlayer
named_does P s who (Some name) none h = entered_does P s (plans.ActAs who name) none (h name)

pub as_does : (P : Plan → Type 0) (s : Standing) (who : Identity) → ((r : Refusal) → P (plans.Refuse r)) →
    ((one : Identity) (name : List ℕ) → P (plans.ActAs one name)) → P (as_plan s who)
as_does P s who none h =
    elim who.is_arbiter as (λ b. P (if b then named_plan s who s.named else plans.Refuse refusals.NotArbiter)) [
      | true ↦ named_does P s who s.named none (h who)
      | false ↦ none refusals.NotArbiter
    ]

black_does : (P : Plan → Type 0) (s : Standing) (who : Identity) (white : List ℕ) (black : Option (List ℕ)) → ((r : Refusal) → P (plans.Refuse r)) →
    ((name : List ℕ) → P (plans.Pair who white name)) → P (black_plan s who white black)
black_does P s who white None none h = none refusals.NoPlayer
black_does P s who white (Some black) none h = asked_does P s (plans.Pair who white black) (none refusals.NoServer) (h black)

white_does : (P : Plan → Type 0) (s : Standing) (who : Identity) (white : Option (List ℕ)) → ((r : Refusal) → P (plans.Refuse r)) →
    ((one other : List ℕ) → P (plans.Pair who one other)) → P (white_plan s who white)
white_does P s who None none h = none refusals.NoPlayer
white_does P s who (Some white) none h = black_does P s who white s.black none (h white)

agreed_does : (P : Plan → Type 0) (s : Standing) (who : Identity) → ((r : Refusal) → P (plans.Refuse r)) →
    ((one other : List ℕ) → P (plans.Pair who one other)) → P (agreed_plan s who)
agreed_does P s who none h =
    elim s.is_paused as (λ b. P (if b then plans.Refuse refusals.EntriesPaused else barred s.pair_bar (white_plan s who s.named))) [
      | true ↦ none refusals.EntriesPaused
      | false ↦ barred_does P s.pair_bar (white_plan s who s.named) none (white_does P s who s.named none h)
    ]

offered_does : (P : Plan → Type 0) (s : Standing) (who : Identity) (accord : Accord) → ((r : Refusal) → P (plans.Refuse r)) →
    P (plans.Offer who) → ((one other : List ℕ) → P (plans.Pair who one other)) → P (offered_plan s who accord)
offered_does P s who accords.Nothing none offer h = none refusals.NotArbiter
offered_does P s who accords.Offered none offer h = offer
offered_does P s who accords.Agreed none offer h = agreed_does P s who none h

pub pair_does : (P : Plan → Type 0) (s : Standing) (who : Identity) → ((r : Refusal) → P (plans.Refuse r)) →
    ((by : Identity) → P (plans.Offer by)) → ((by : Identity) (one other : List ℕ) → P (plans.Pair by one other)) → P (pair_plan s who)
pair_does P s who none offer h =
    elim who.is_arbiter as (λ b. P (if b then white_plan s who s.named else offered_plan s who s.accord)) [
      | true ↦ white_does P s who s.named none (h who)
      | false ↦ offered_does P s who s.accord none (offer who) (h who)
    ]

pub dropped_does : (P : Plan → Type 0) (s : Standing) (who : Identity) (game : Option ℕ) → ((r : Refusal) → P (plans.Refuse r)) →
    ((g : ℕ) → P (plans.Drop who g)) → P (numbered_plan sorts.Drop s who game)
dropped_does P s who None none h = none refusals.BadLine
dropped_does P s who (Some game) none h = asked_does P s (plans.Drop who game) (none refusals.NoServer) (h game)

pub arbiter_does : (P : Plan → Type 0) (who : Identity) (plan : Plan) → ((r : Refusal) → P (plans.Refuse r)) → P plan → P (arbiter_plan who plan)
arbiter_does P who plan none h =
    elim who.is_arbiter as (λ b. P (if b then plan else plans.Refuse refusals.NotArbiter)) [ true ↦ h | false ↦ none refusals.NotArbiter ]

order_does : (P : Plan → Type 0) (change : Change) (linked : Option (List ℕ)) → ((r : Refusal) → P (plans.Refuse r)) →
    ((o : Order) → P (plans.Order o)) → P (order_plan change linked)
order_does P change None none h = none refusals.NoPlayer
order_does P change (Some name) none h = h (record { name = name; change = change })

pub link_does : (P : Plan → Type 0) (who : Identity) (change : Change) (linked : Option (List ℕ)) → ((r : Refusal) → P (plans.Refuse r)) →
    ((o : Order) → P (plans.Order o)) → P (arbiter_plan who (order_plan change linked))
link_does P who change linked none h = arbiter_does P who (order_plan change linked) none (order_does P change linked none h)

newcomer_does : (P : Plan → Type 0) (newcomer : Newcomer) → ((r : Refusal) → P (plans.Refuse r)) → ((name : List ℕ) → P (plans.Taken name)) →
    ((o : Order) → P (plans.Order o)) → P (newcomer_plan newcomer)
newcomer_does P newcomers.BadName none taken h = none refusals.BadName
newcomer_does P (newcomers.Taken name) none taken h = taken name
newcomer_does P newcomers.BadFullName none taken h = none refusals.BadFullName
newcomer_does P (newcomers.New name) none taken h = h (record { name = name; change = changes.NewPlayer })

pub join_does : (P : Plan → Type 0) (who : Identity) (newcomer : Newcomer) → ((r : Refusal) → P (plans.Refuse r)) → ((name : List ℕ) → P (plans.Taken name)) →
    ((o : Order) → P (plans.Order o)) → P (arbiter_plan who (newcomer_plan newcomer))
join_does P who newcomer none taken h = arbiter_does P who (newcomer_plan newcomer) none (newcomer_does P newcomer none taken h)

pub login_does : (P : Plan → Type 0) (holder : Option Identity) → ((r : Refusal) → P (plans.Refuse r)) → ((one : Identity) → P (plans.Login one)) →
    P (login_plan holder)
login_does P None none h = none refusals.BadToken
login_does P (Some who) none h = h who

-- and each for one of who acts for nobody
pub stranger_does : (P : Plan → Type 0) (b : Bool) (s : Standing) → ((r : Refusal) → P (plans.Refuse r)) → ((one : Identity) → P (plans.Login one)) →
    P (stranger_plan b s)
stranger_does P true s none h = login_does P s.holder none h
stranger_does P false s none h = none refusals.NoToken

pub watch_does : (P : Plan → Type 0) (s : Standing) (who : Identity) (game : Option ℕ) → ((r : Refusal) → P (plans.Refuse r)) → ((g : ℕ) → P (plans.Watch g)) →
    P (numbered_plan sorts.Watch s who game)
watch_does P s who None none h = none refusals.BadLine
watch_does P s who (Some game) none h =
    elim s.is_full as (λ b. P (if b then asked s (plans.Refuse refusals.TooManyWatched) else asked s (plans.Watch game))) [
      | true ↦ asked_does P s (plans.Refuse refusals.TooManyWatched) (none refusals.NoServer) (none refusals.TooManyWatched)
      | false ↦ asked_does P s (plans.Watch game) (none refusals.NoServer) (h game)
    ]

pub room_does : (P : Plan → Type 0) (s : Standing) (who : Identity) (game : Option ℕ) → ((r : Refusal) → P (plans.Refuse r)) → ((g : ℕ) → P (plans.Room g s.at)) →
    P (numbered_plan sorts.Room s who game)
room_does P s who None none h = none refusals.BadLine
room_does P s who (Some game) none h = h game

pub line_does : (P : Plan → Type 0) (s : Standing) (who : Identity) (game : Option ℕ) → ((r : Refusal) → P (plans.Refuse r)) → ((g : ℕ) → P (plans.Line g)) →
    P (numbered_plan sorts.Line s who game)
line_does P s who None none h = none refusals.BadLine
line_does P s who (Some game) none h = asked_does P s (plans.Line game) (none refusals.NoServer) (h game)

-- who watches and who is told of the table is as before
abbrev Stays : ℕ → List Watch → List ℕ → Plan → Type 0
Stays c watches table plan = (plan_watches plan c watches ≡ watches) × (plan_table plan c table ≡ table)

-- who watches after a plan, and who is told of the table, for whom the connection acts before it
abbrev IsLeft : Sort → Option ℕ → ℕ → List Watch → List ℕ → Option Identity → Plan → Type 0
IsLeft sort game c watches table who plan =
    (plan_watches plan c watches ≡ (if is_leave_sort sort && is_some (who_noted plan who) then left_game c game watches else watches))
    × (plan_table plan c table ≡ (if is_leave_lobby_sort sort && is_some (who_noted plan who) then risen c table else table))

leave_left : (s : Standing) (who : Identity) (game : Option ℕ) (c : ℕ) (watches : List Watch) (table : List ℕ) →
    IsLeft sorts.Leave game c watches table (Some who) (numbered_plan sorts.Leave s who game)
leave_left s who None c watches table = (refl, refl)
leave_left s who (Some game) c watches table = (refl, refl)

sorted : (sort : Sort) (s : Standing) (who : Identity) (game : Option ℕ) (c : ℕ) (watches : List Watch) (table : List ℕ) →
    IsLeft sort game c watches table (Some who) (sort_plan sort s who game)
sorted sorts.Read s who game c watches table = asked_does (Stays c watches table) s plans.Read (refl, refl) (refl, refl)
sorted sorts.Act s who game c watches table = act_does (Stays c watches table) s who (λ _. (refl, refl)) (λ _. (refl, refl))
sorted sorts.As s who game c watches table = as_does (Stays c watches table) s who (λ _. (refl, refl)) (λ _ _. (refl, refl))
sorted sorts.Pair s who game c watches table =
    pair_does (Stays c watches table) s who (λ _. (refl, refl)) (λ _. (refl, refl)) (λ _ _ _. (refl, refl))
sorted sorts.Unpair s who game c watches table = (refl, refl)
sorted sorts.Offers s who game c watches table = (refl, refl)
sorted sorts.Drop s who game c watches table = dropped_does (Stays c watches table) s who game (λ _. (refl, refl)) (λ _. (refl, refl))
sorted sorts.Login s who game c watches table = login_does (Stays c watches table) s.holder (λ _. (refl, refl)) (λ _. (refl, refl))
sorted sorts.Players s who game c watches table = (refl, refl)
sorted sorts.Who s who game c watches table = (refl, refl)
sorted sorts.Pause s who game c watches table = arbiter_does (Stays c watches table) who plans.Pause (λ _. (refl, refl)) (refl, refl)
sorted sorts.Resume s who game c watches table = arbiter_does (Stays c watches table) who plans.Resume (λ _. (refl, refl)) (refl, refl)
sorted (sorts.Call call) s who game c watches table =
    arbiter_does (Stays c watches table) who (barred s.bar (plans.Call call)) (λ _. (refl, refl))
    (barred_does (Stays c watches table) s.bar (plans.Call call) (λ _. (refl, refl)) (refl, refl))
sorted sorts.Link s who game c watches table =
    link_does (Stays c watches table) who changes.NewLink s.linked (λ _. (refl, refl)) (λ _. (refl, refl))
sorted sorts.Close s who game c watches table =
    link_does (Stays c watches table) who changes.NoLink s.linked (λ _. (refl, refl)) (λ _. (refl, refl))
sorted sorts.Player s who game c watches table =
    join_does (Stays c watches table) who s.newcomer (λ _. (refl, refl)) (λ _. (refl, refl)) (λ _. (refl, refl))
sorted sorts.Lobby s who game c watches table = asked_does (Stays c watches table) s plans.Lobby (refl, refl) (refl, refl)
sorted sorts.LeaveLobby s who game c watches table = (refl, refl)
sorted sorts.Watch s who game c watches table = watch_does (Stays c watches table) s who game (λ _. (refl, refl)) (λ _. (refl, refl))
sorted sorts.Leave s who game c watches table = leave_left s who game c watches table
sorted sorts.Line s who game c watches table = line_does (Stays c watches table) s who game (λ _. (refl, refl)) (λ _. (refl, refl))
sorted sorts.Room s who game c watches table = room_does (Stays c watches table) s who game (λ _. (refl, refl)) (λ _. (refl, refl))
sorted sorts.Moves s who game c watches table = (refl, refl)
sorted sorts.Name s who game c watches table = (refl, refl)
sorted sorts.Nothing s who game c watches table = (refl, refl)

strange : (sort : Sort) (s : Standing) (game : Option ℕ) (c : ℕ) (watches : List Watch) (table : List ℕ) →
    IsLeft sort game c watches table None (stranger_plan (is_login_sort sort) s)
strange sorts.Login s game c watches table = login_does (Stays c watches table) s.holder (λ _. (refl, refl)) (λ _. (refl, refl))
strange _ s game c watches table = (refl, refl)

who_left : (who : Option Identity) (sort : Sort) (s : Standing) (game : Option ℕ) (c : ℕ) (watches : List Watch) (table : List ℕ) →
    IsLeft sort game c watches table who (who_plan who sort s game)
who_left None sort s game c watches table = strange sort s game c watches table
who_left (Some who) sort s game c watches table = sorted sort s who game c watches table

planned : (m : Bool) (sort : Sort) (s : Standing) (game : Option ℕ) (c : ℕ) (watches : List Watch) (table : List ℕ) →
    (plan_watches (plan_of m sort s game) c watches
    ≡ (if m && is_leave_sort sort && is_some (who_noted (plan_of m sort s game) s.who) then left_game c game watches else watches))
    × (plan_table (plan_of m sort s game) c table
    ≡ (if m && is_leave_lobby_sort sort && is_some (who_noted (plan_of m sort s game) s.who) then risen c table else table))
planned false sort s game c watches table = (refl, refl)
planned true sort s game c watches table = who_left s.who sort s game c watches table

-- who watches after the plan for a message
pub planned_watches : (m : Bool) (sort : Sort) (s : Standing) (game : Option ℕ) (c : ℕ) (watches : List Watch) →
    plan_watches (plan_of m sort s game) c watches
    ≡ (if m && is_leave_sort sort && is_some (who_noted (plan_of m sort s game) s.who) then left_game c game watches else watches)
planned_watches m sort s game c watches = (planned m sort s game c watches []).0

-- who is told of the table after it
pub planned_table : (m : Bool) (sort : Sort) (s : Standing) (game : Option ℕ) (c : ℕ) (table : List ℕ) →
    plan_table (plan_of m sort s game) c table
    ≡ (if m && is_leave_lobby_sort sort && is_some (who_noted (plan_of m sort s game) s.who) then risen c table else table)
planned_table m sort s game c table = (planned m sort s game c [] table).1

-- ---- of whom everybody is told something

-- what holds of what an arbiter has everybody told, and of `moves`, where a plan is one
abbrev pub OfTold : (Call → Type 0) → Type 0 → Plan → Type 0
OfTold Q M (plans.Call call) = Q call
OfTold Q M plans.Moves = M
OfTold Q M _ = Unit {0}

-- Everybody is told something for a message that asks for just this, of an arbiter.
pub record Calls (sort : Sort) (who : Option Identity) (call : Call) : Type 0 where
  pub asked : sort ≡ sorts.Call call
  pub arbiter : IsArbiter who

abbrev Tells : Sort → Option Identity → Plan → Type 0
Tells sort who plan = OfTold (Calls sort who) (sort ≡ sorts.Moves) plan

called_at : (s : Standing) (call : Call) (who : Identity) (b : Bool) → who.is_arbiter ≡ b →
    Tells (sorts.Call call) (Some who) (if b then barred s.bar (plans.Call call) else plans.Refuse refusals.NotArbiter)
called_at s call who true arbiter =
    barred_does (Tells (sorts.Call call) (Some who)) s.bar (plans.Call call) (λ _. tt) (record { asked = refl; arbiter = arbiter })
called_at s call who false arbiter = tt

leave_tells : (s : Standing) (who : Identity) (game : Option ℕ) → Tells sorts.Leave (Some who) (numbered_plan sorts.Leave s who game)
leave_tells s who None = tt
leave_tells s who (Some game) = tt

sorted_tells : (sort : Sort) (s : Standing) (who : Identity) (game : Option ℕ) → Tells sort (Some who) (sort_plan sort s who game)
sorted_tells sorts.Read s who game = asked_does (Tells sorts.Read (Some who)) s plans.Read tt tt
sorted_tells sorts.Act s who game = act_does (Tells sorts.Act (Some who)) s who (λ _. tt) (λ _. tt)
sorted_tells sorts.As s who game = as_does (Tells sorts.As (Some who)) s who (λ _. tt) (λ _ _. tt)
sorted_tells sorts.Pair s who game = pair_does (Tells sorts.Pair (Some who)) s who (λ _. tt) (λ _. tt) (λ _ _ _. tt)
sorted_tells sorts.Unpair s who game = tt
sorted_tells sorts.Offers s who game = tt
sorted_tells sorts.Drop s who game = dropped_does (Tells sorts.Drop (Some who)) s who game (λ _. tt) (λ _. tt)
sorted_tells sorts.Login s who game = login_does (Tells sorts.Login (Some who)) s.holder (λ _. tt) (λ _. tt)
sorted_tells sorts.Players s who game = tt
sorted_tells sorts.Who s who game = tt
sorted_tells sorts.Pause s who game = arbiter_does (Tells sorts.Pause (Some who)) who plans.Pause (λ _. tt) tt
sorted_tells sorts.Resume s who game = arbiter_does (Tells sorts.Resume (Some who)) who plans.Resume (λ _. tt) tt
sorted_tells (sorts.Call call) s who game = called_at s call who who.is_arbiter refl
sorted_tells sorts.Link s who game = link_does (Tells sorts.Link (Some who)) who changes.NewLink s.linked (λ _. tt) (λ _. tt)
sorted_tells sorts.Close s who game = link_does (Tells sorts.Close (Some who)) who changes.NoLink s.linked (λ _. tt) (λ _. tt)
sorted_tells sorts.Player s who game = join_does (Tells sorts.Player (Some who)) who s.newcomer (λ _. tt) (λ _. tt) (λ _. tt)
sorted_tells sorts.Lobby s who game = asked_does (Tells sorts.Lobby (Some who)) s plans.Lobby tt tt
sorted_tells sorts.LeaveLobby s who game = tt
sorted_tells sorts.Watch s who game = watch_does (Tells sorts.Watch (Some who)) s who game (λ _. tt) (λ _. tt)
sorted_tells sorts.Leave s who game = leave_tells s who game
sorted_tells sorts.Line s who game = line_does (Tells sorts.Line (Some who)) s who game (λ _. tt) (λ _. tt)
sorted_tells sorts.Room s who game = room_does (Tells sorts.Room (Some who)) s who game (λ _. tt) (λ _. tt)
sorted_tells sorts.Moves s who game = refl
sorted_tells sorts.Name s who game = tt
sorted_tells sorts.Nothing s who game = tt

who_tells : (who : Option Identity) (sort : Sort) (s : Standing) (game : Option ℕ) → Tells sort who (who_plan who sort s game)
who_tells None sort s game = stranger_does (Tells sort None) (is_login_sort sort) s (λ _. tt) (λ _. tt)
who_tells (Some who) sort s game = sorted_tells sort s who game

pub planned_tells : (m : Bool) (sort : Sort) (s : Standing) (game : Option ℕ) → Tells sort s.who (plan_of m sort s game)
planned_tells false sort s game = tt
planned_tells true sort s game = who_tells s.who sort s game

-- a message is answered at once where nothing goes out by its plan
act_sent : (is_open : ℕ → Bool) (table : List ℕ) (acts_for : ℕ → Option Identity) (said : List ℕ) (b : Bool) (name text : List ℕ) (rest : List (List ℕ)) (c : ℕ) (tells : List MessageValue) → tells ≡ [] →
    IsToldOrSent is_open table acts_for said (if b then text ∷ rest else name_line name ∷ text ∷ rest) c tells
act_sent is_open table acts_for said true name text rest c tells h = h
act_sent is_open table acts_for said false name text rest c tells h = h

pub answered_or_sent : (players : List Player) (v : View) (plan : Plan) (said : Option (List ℕ)) (text : List ℕ) (c : ℕ) (tells : List MessageValue) → OfTold (Calls (sort_of text) (v.who c)) (sort_of text ≡ sorts.Moves) plan → IsAnswered players v text plan c tells →
    IsToldOrSent v.is_open v.known.table v.who text (lines_of plan said text) c tells
answered_or_sent players v (plans.Refuse refusal) said text c tells asks h = inl (h.0, h.2)
answered_or_sent players v (plans.Offer who) said text c tells asks h = inr (inl (h.0, h.2))
answered_or_sent players v (plans.Unpair who) said text c tells asks h = inr (inl (h.0, h.2))
answered_or_sent players v (plans.Call call) said text c tells asks h =
    inr (inr (inl (record { call = call; asked = asks.asked; arbiter = asks.arbiter; text = h.0; told = h.2 })))
answered_or_sent players v (plans.Offers who at) said text c tells asks h = inl (h.0, h.2)
answered_or_sent players v plans.Read said text c tells asks h = h
answered_or_sent players v (plans.Act who) said text c tells asks h = act_sent v.is_open v.known.table v.who text (is_said said who.name) who.name text (notice_lines (game_named text)) c tells h
answered_or_sent players v (plans.ActAs who name) said text c tells asks h = act_sent v.is_open v.known.table v.who text (is_said said name) name (as_line text) (notice_lines (game_named text)) c tells h
answered_or_sent players v (plans.Pair who white black) said text c tells asks h = act_sent v.is_open v.known.table v.who text (is_said said white) white (pair_line text) [] c tells h
answered_or_sent players v (plans.Drop who game) said text c tells asks h = h
answered_or_sent players v (plans.Login who) said text c tells asks h = inl (h.0, h.2)
answered_or_sent players v plans.Players said text c tells asks h = inl (h.0, h.2)
answered_or_sent players v plans.Who said text c tells asks h = inl (h.0, h.2)
answered_or_sent players v plans.Pause said text c tells asks h = inl (h.0, h.2)
answered_or_sent players v plans.Resume said text c tells asks h = inl (h.0, h.2)
answered_or_sent players v (plans.Order order) said text c tells asks h = inl (h.0, h.2)
answered_or_sent players v (plans.Taken name) said text c tells asks h = inl (h.0, h.2)
answered_or_sent players v plans.Lobby said text c tells asks h = h
answered_or_sent players v plans.LeaveLobby said text c tells asks h = inl (h.0, h.2)
answered_or_sent players v (plans.Watch game) said text c tells asks h = h
answered_or_sent players v (plans.Leave game) said text c tells asks h = inl (h.0, h.2)
answered_or_sent players v (plans.Line game) said text c tells asks h = h
answered_or_sent players v (plans.Room game at) said text c tells asks h = inl (h.0, h.2)
answered_or_sent players v plans.Moves said text c tells asks h = inr (inr (inr (asks, h.2)))

-- ---- who orders

-- what holds of an order, where a plan is one
abbrev pub OfOrder : (Order → Type 0) → Plan → Type 0
OfOrder Q (plans.Order order) = Q order
OfOrder Q _ = Unit {0}

-- the name of an order, which adds a player or does not
abbrev pub IsNameIf : Bool → Standing → List ℕ → Type 0
IsNameIf true s name = s.newcomer ≡ newcomers.New name
IsNameIf false s name = s.linked ≡ Some name

-- An order is of an arbiter's message that asks for it, and of a player that is named behind its word.
pub record Orders (m : Bool) (sort : Sort) (s : Standing) (order : Order) : Type 0 where
  pub message : m ≡ true
  pub arbiter : IsArbiter s.who
  pub sort_is : is_link_sort sort ≡ true
  pub closing : is_close_sort sort ≡ closes order.change
  pub adding : is_player_sort sort ≡ adds order.change
  pub named : IsNameIf (adds order.change) s order.name

-- how a change goes by which no player is added
pub record IsLinkChange (change : Change) (sort : Sort) : Type 0 where
  pub sort_is : is_link_sort sort ≡ true
  pub closing : is_close_sort sort ≡ closes change
  pub adding : is_player_sort sort ≡ adds change
  pub none : adds change ≡ false

order_orders : (change : Change) (sort : Sort) (s : Standing) (linked : Option (List ℕ)) → IsArbiter s.who → IsLinkChange change sort →
    s.linked ≡ linked → OfOrder (Orders true sort s) (order_plan change linked)
order_orders change sort s None arbiter is named = tt
order_orders change sort s (Some name) arbiter is named = record {
  message = refl;
  arbiter = arbiter;
  sort_is = is.sort_is;
  closing = is.closing;
  adding = is.adding;
  named = subst (λ (b : Bool). IsNameIf b s name) (sym is.none) named;
}

allowed_at : (change : Change) (sort : Sort) (s : Standing) (who : Identity) → s.who ≡ Some who → IsLinkChange change sort →
    (b : Bool) → who.is_arbiter ≡ b →
    OfOrder (Orders true sort s) (if b then order_plan change s.linked else plans.Refuse refusals.NotArbiter)
allowed_at change sort s who is link true arbiter = order_orders change sort s s.linked (subst IsArbiter (sym is) arbiter) link refl
allowed_at change sort s who is link false arbiter = tt

newcomer_orders : (s : Standing) (newcomer : Newcomer) → IsArbiter s.who → s.newcomer ≡ newcomer →
    OfOrder (Orders true sorts.Player s) (newcomer_plan newcomer)
newcomer_orders s newcomers.BadName arbiter is = tt
newcomer_orders s (newcomers.Taken name) arbiter is = tt
newcomer_orders s newcomers.BadFullName arbiter is = tt
newcomer_orders s (newcomers.New name) arbiter is =
    record { message = refl; arbiter = arbiter; sort_is = refl; closing = refl; adding = refl; named = is }

joins_at : (s : Standing) (who : Identity) → s.who ≡ Some who → (b : Bool) → who.is_arbiter ≡ b →
    OfOrder (Orders true sorts.Player s) (if b then newcomer_plan s.newcomer else plans.Refuse refusals.NotArbiter)
joins_at s who is true arbiter = newcomer_orders s s.newcomer (subst IsArbiter (sym is) arbiter) refl
joins_at s who is false arbiter = tt

-- what was carried out for an order is what its message asks for
carried_if : (players later : List Player) (text name token : List ℕ) (s : Standing) (b : Bool) → s.linked ≡ known_name players (rest_of text) →
    s.newcomer ≡ newcomer_said players text → IsNameIf b s name → IsCarriedIf b name (full_said text) token players later →
    IsChangedIf b text token players later
carried_if players later text name token s true link newcomer named h =
    subst (λ (n : List ℕ). IsJoined n (full_said text) token players later) (new_name players text name (sym newcomer ∙ named)) h
carried_if players later text name token s false link newcomer named h =
    subst (λ (n : List ℕ). IsRelinked n token players later) (sym (named_is players (rest_of text) name (sym link ∙ named))) h

pub carried : (m : Bool) (players later : List Player) (text token : List ℕ) (s : Standing) (order : Order) → s.linked ≡ known_name players (rest_of text) →
    s.newcomer ≡ newcomer_said players text → Orders m (sort_of text) s order → IsCarriedOut order (full_said text) token players later →
    IsChanged text token players later
carried m players later text token s order link newcomer orders h =
    subst (λ (b : Bool). IsChangedIf b text token players later) (sym orders.adding)
    (carried_if players later text order.name token s (adds order.change) link newcomer orders.named h)

leave_orders : (s : Standing) (who : Identity) (game : Option ℕ) → OfOrder (Orders true sorts.Leave s) (numbered_plan sorts.Leave s who game)
leave_orders s who None = tt
leave_orders s who (Some game) = tt

sorted_orders : (sort : Sort) (s : Standing) (who : Identity) → s.who ≡ Some who → (game : Option ℕ) → OfOrder (Orders true sort s) (sort_plan sort s who game)
sorted_orders sorts.Read s who is game = asked_does (OfOrder (Orders true sorts.Read s)) s plans.Read tt tt
sorted_orders sorts.Act s who is game = act_does (OfOrder (Orders true sorts.Act s)) s who (λ _. tt) (λ _. tt)
sorted_orders sorts.As s who is game = as_does (OfOrder (Orders true sorts.As s)) s who (λ _. tt) (λ _ _. tt)
sorted_orders sorts.Pair s who is game = pair_does (OfOrder (Orders true sorts.Pair s)) s who (λ _. tt) (λ _. tt) (λ _ _ _. tt)
sorted_orders sorts.Unpair s who is game = tt
sorted_orders sorts.Offers s who is game = tt
sorted_orders sorts.Drop s who is game = dropped_does (OfOrder (Orders true sorts.Drop s)) s who game (λ _. tt) (λ _. tt)
sorted_orders sorts.Login s who is game = login_does (OfOrder (Orders true sorts.Login s)) s.holder (λ _. tt) (λ _. tt)
sorted_orders sorts.Players s who is game = tt
sorted_orders sorts.Who s who is game = tt
sorted_orders sorts.Pause s who is game = arbiter_does (OfOrder (Orders true sorts.Pause s)) who plans.Pause (λ _. tt) tt
sorted_orders sorts.Resume s who is game = arbiter_does (OfOrder (Orders true sorts.Resume s)) who plans.Resume (λ _. tt) tt
sorted_orders (sorts.Call call) s who is game =
    arbiter_does (OfOrder (Orders true (sorts.Call call) s)) who (barred s.bar (plans.Call call)) (λ _. tt)
    (barred_does (OfOrder (Orders true (sorts.Call call) s)) s.bar (plans.Call call) (λ _. tt) tt)
sorted_orders sorts.Link s who is game =
    allowed_at changes.NewLink sorts.Link s who is (record { sort_is = refl; closing = refl; adding = refl; none = refl }) who.is_arbiter refl
sorted_orders sorts.Close s who is game =
    allowed_at changes.NoLink sorts.Close s who is (record { sort_is = refl; closing = refl; adding = refl; none = refl }) who.is_arbiter refl
sorted_orders sorts.Player s who is game = joins_at s who is who.is_arbiter refl
sorted_orders sorts.Lobby s who is game = asked_does (OfOrder (Orders true sorts.Lobby s)) s plans.Lobby tt tt
sorted_orders sorts.LeaveLobby s who is game = tt
sorted_orders sorts.Watch s who is game = watch_does (OfOrder (Orders true sorts.Watch s)) s who game (λ _. tt) (λ _. tt)
sorted_orders sorts.Leave s who is game = leave_orders s who game
sorted_orders sorts.Line s who is game = line_does (OfOrder (Orders true sorts.Line s)) s who game (λ _. tt) (λ _. tt)
sorted_orders sorts.Room s who is game = room_does (OfOrder (Orders true sorts.Room s)) s who game (λ _. tt) (λ _. tt)
sorted_orders sorts.Moves s who is game = tt
sorted_orders sorts.Name s who is game = tt
sorted_orders sorts.Nothing s who is game = tt

who_orders : (who : Option Identity) (sort : Sort) (s : Standing) → s.who ≡ who → (game : Option ℕ) → OfOrder (Orders true sort s) (who_plan who sort s game)
who_orders None sort s is game = stranger_does (OfOrder (Orders true sort s)) (is_login_sort sort) s (λ _. tt) (λ _. tt)
who_orders (Some who) sort s is game = sorted_orders sort s who is game

pub planned_orders : (m : Bool) (sort : Sort) (s : Standing) (game : Option ℕ) → OfOrder (Orders m sort s) (plan_of m sort s game)
planned_orders false sort s game = tt
planned_orders true sort s game = who_orders s.who sort s refl game

-- a message that asks for a link changes nothing that is offered
link_no_pair : (sort : Sort) → is_link_sort sort ≡ true → is_pair_sort sort ≡ false
link_no_pair sorts.Pair h = absurd (false≢true h)
link_no_pair _ h = refl

link_no_unpair : (sort : Sort) → is_link_sort sort ≡ true → is_unpair_sort sort ≡ false
link_no_unpair sorts.Unpair h = absurd (false≢true h)
link_no_unpair _ h = refl

and_none : (a b : Bool) → b ≡ false → (a && b) ≡ false
and_none true b h = h
and_none false b h = refl

link_none : (players : List Player) (acts_for : ℕ → Option Identity) (who : Option Identity) (c : ℕ) (text : List ℕ) (at : ℕ) (offers : List Offered) →
    is_link_sort (sort_of text) ≡ true → offers ≡ offers_said (accord_by players acts_for who text at offers) who c text at offers
link_none players acts_for None c text at offers link = refl
link_none players acts_for (Some who) c text at offers link =
    let one = as_name text in
    let other = black_name text in
    let accord = accord_by players acts_for (Some who) text at offers in
    let ends : ends_offers text ≡ false = and_none (is_message text) (is_unpair_sort (sort_of text)) (link_no_unpair (sort_of text) link) in
    let may : may_offer players who text ≡ false =
    ap (λ (b : Bool). b && not who.is_arbiter && is_party who.name text && is_some (known_name players one) && is_some (known_name players other))
    (and_none (is_message text) (is_pair_sort (sort_of text)) (link_no_pair (sort_of text) link)) in
    let at_once : pairs_at_once who text ≡ false =
    ap (λ (b : Bool). b && who.is_arbiter) (and_none (is_message text) (is_pair_sort (sort_of text)) (link_no_pair (sort_of text) link)) in
    let both = but_by one (but_by other offers) in
    sym (ap (λ (b : Bool). if b then parted who.name (rest_of text) offers
    else (if pairs_at_once who text then both else accord_noted accord who.name c text at offers)) ends
    ∙ (ap (λ (b : Bool). if b then both else accord_noted accord who.name c text at offers) at_once
    ∙ ap (λ (b : Bool). accord_noted (if b then (if is_agreed acts_for (other_party who.name text) text at offers then accords.Agreed else accords.Offered)
    else accords.Nothing) who.name c text at offers) may))

pub link_offers : (players : List Player) (acts_for : ℕ → Option Identity) (c : ℕ) (text : List ℕ) (at : ℕ) (offers : List Offered) →
    is_link_sort (sort_of text) ≡ true → offers ≡ offers_now players acts_for (Said c text at) offers
link_offers players acts_for c text at offers link = link_none players acts_for (acts_for c) c text at offers link

abbrev or_this : Order → Option Order → Order
or_this one None = one
or_this one (Some order) = order

-- a plan that has this order done
pub is_order : (plan : Plan) (order : Order) → order_of plan ≡ Some order → plan ≡ plans.Order order
is_order (plans.Order one) order is = ap plans.Order (ap (or_this one) is)
is_order (plans.Refuse r) order is = absurd (false≢true (ap is_some is))
is_order (plans.Offer who) order is = absurd (false≢true (ap is_some is))
is_order (plans.Unpair who) order is = absurd (false≢true (ap is_some is))
is_order (plans.Offers who at) order is = absurd (false≢true (ap is_some is))
is_order plans.Read order is = absurd (false≢true (ap is_some is))
is_order (plans.Act who) order is = absurd (false≢true (ap is_some is))
is_order (plans.ActAs who name) order is = absurd (false≢true (ap is_some is))
is_order (plans.Pair who white black) order is = absurd (false≢true (ap is_some is))
is_order (plans.Drop who game) order is = absurd (false≢true (ap is_some is))
is_order (plans.Login who) order is = absurd (false≢true (ap is_some is))
is_order plans.Players order is = absurd (false≢true (ap is_some is))
is_order plans.Who order is = absurd (false≢true (ap is_some is))
is_order plans.Pause order is = absurd (false≢true (ap is_some is))
is_order plans.Resume order is = absurd (false≢true (ap is_some is))
is_order (plans.Call call) order is = absurd (false≢true (ap is_some is))
is_order plans.Lobby order is = absurd (false≢true (ap is_some is))
is_order plans.LeaveLobby order is = absurd (false≢true (ap is_some is))
is_order (plans.Watch game) order is = absurd (false≢true (ap is_some is))
is_order (plans.Leave game) order is = absurd (false≢true (ap is_some is))
is_order (plans.Line game) order is = absurd (false≢true (ap is_some is))
is_order (plans.Room game at) order is = absurd (false≢true (ap is_some is))
is_order (plans.Taken name) order is = absurd (false≢true (ap is_some is))
is_order plans.Moves order is = absurd (false≢true (ap is_some is))

-- the plan for a message that asks for no link has no order done
none_ordered : (m : Bool) (sort : Sort) (s : Standing) → is_link_sort sort ≡ false → (plan : Plan) → OfOrder (Orders m sort s) plan →
    order_of plan ≡ None
none_ordered m sort s other (plans.Order order) h = absurd (false≢true (sym other ∙ h.sort_is))
none_ordered m sort s other _ h = refl

pub no_order : (m : Bool) (sort : Sort) (s : Standing) (game : Option ℕ) → is_link_sort sort ≡ false → order_of (plan_of m sort s game) ≡ None
no_order m sort s game other = none_ordered m sort s other (plan_of m sort s game) (planned_orders m sort s game)
