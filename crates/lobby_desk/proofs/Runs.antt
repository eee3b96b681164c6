-- What is promised holds of each run.
use Rattle.std.proofs.Common.{ℕ, ◌≡◌, ◌<◌, ◌+◌, ◌^◌, ◌⊎◌, inl, inr, Bool, true, false, ◌&&◌, ◌||◌, ◌==◌, not, List, [], ◌∷◌, ◌++◌, Option, None, Some, IfSome, codes, cond, map, refl, sym, ap, ◌∙◌, subst, arith}
use Rattle.std.specs.Prelude.{if◌then◌else◌, option_map, is_some, nat_le, ◌-◌}
use Rattle.std.specs.List.{AllByRecursion}
use Rattle.std.specs.Str.{bytes_eq}
use Rattle.std.proofs.lemmas.Bool.{false≢true}
use Rattle.std.proofs.lemmas.Bool.Decides.{Decides-eqb}
use Rattle.player_name.specs.Name.{IsName}
use Rattle.lobby_words.specs.declared.words.Sort.{Sort}
use Rattle.lobby_words.specs.declared.planning.Change.{Change}
use Rattle.lobby_words.specs.declared.planning.Change.TheVariants as changes
use Rattle.lobby_words.specs.declared.words.Sort.TheVariants as sorts
use Rattle.lobby_words.specs.declared.refusals.Refusal.{Refusal}
use Rattle.lobby_words.specs.declared.refusals.Refusal.TheVariants as refusals
use Rattle.lobby_words.specs.declared.planning.Plan.{Plan}
use Rattle.lobby_words.specs.declared.planning.Plan.TheVariants as plans
use Rattle.lobby_words.specs.declared.planning.Standing.{Standing}
use Rattle.lobby_words.specs.declared.planning.Identity.{Identity}
use Rattle.lobby_words.specs.declared.planning.Accord.{Accord}
use Rattle.lobby_words.specs.declared.planning.Accord.TheVariants as accords
use Rattle.lobby_words.specs.declared.players.Player.{Player}
use Rattle.lobby_words.specs.declared.listing.Seat.{Seat}
use Rattle.lobby_table.specs.declared.refusals.RefusedActs.{RefusedActs}
use Rattle.lobby_table.specs.declared.pairings.Pairing.{Pairing}
use Rattle.lobby_table.specs.declared.watching.Watch.{Watch}
use Rattle.lobby_words.specs.Words.{word_of, rest_of, as_name, as_line, black_name, pair_line, is_pair, line_said, is_message, sort_of, is_act_sort, is_as_sort, is_pair_sort, is_drop_sort, is_name_sort, is_login_sort, is_leave_sort, u32_in, or_0}
use Rattle.lobby_words.specs.Plans.{asked, barred, entered_plan, act_plan, named_plan, as_plan, black_plan, white_plan, agreed_plan, offered_plan, pair_plan, arbiter_plan, order_plan, newcomer_plan, login_plan, numbered_plan, sort_plan, stranger_plan, who_plan, plan_of}
use Rattle.lobby_desk.specs.Lines.{lines_of, said_after, is_said, IsNamed}
use Rattle.lobby_table.specs.Sending.{act_lines, name_line, game_line, join_line, notice_lines}
use Rattle.lobby_words.specs.Answers.{is_shown, first_line, act_game, answer}
use Rattle.lobby_table.specs.Refusals.{game_named}
use Rattle.lobby_table.specs.Watching.{watch_if, sit_if, watches_kept, table_kept, risen}
use Rattle.lobby_table.specs.Visitors.{acting}
use Rattle.lobby_desk.specs.Events.{DeskInput, Opened, Closed, Said, Hurried, Heard, ServerTurned, Renewed, Linked, Found}
use Rattle.lobby_players.specs.Halts.{Halted, found_line, found_texts}
use Rattle.lobby_words.specs.declared.words.Call.{Call}
use Rattle.lobby_words.specs.declared.words.Call.TheVariants as calls
use Rattle.lobby_desk.specs.Events.{MessageValue, to_one, to_log, sort_asker, asker, followers_of, follower, Following}
use Rattle.lobby_desk.specs.Events.{is_asked_behind, game_if, asked_after}
use Rattle.lobby_table.specs.Owed.{ForItself, ForPositions, ForTable, ForGame, ForAct, Owed, Nobody, Naming, Asker}
use Rattle.lobby_table.specs.Owed.{Dropper, Pairer, Followers, Behind, owed_last, owed_acted, owed_some, owed_lines}
use Rattle.lobby_desk.specs.Tellings.{IsToldOrSent, AreToldCall, AreToldSome, IsArbiter, hears, Known, is_counted, open_now, left_game, leaves_table, watch_heard, watch_next, watches_now, table_heard, table_next, table_now, owed_answered, owed_now, known_now, presence, lost, AreToldAll, IsTold, change_told}
use Rattle.lobby_desk.specs.Who.{View, BeginsView, IsSaid, IsHeard, IsDropped, IsPaired, IsSentFor, IsSentNext, IsSentHeard, IsDone, IsRenewed, IsLinked, IsKnown, who_noted, name_of, speaker, offers_now}
use Rattle.lobby_words.specs.Players.{known_name, is_named, renewed, holder_of}
use Rattle.lobby_offers.specs.Offers.{Offered, is_answered, is_agreed, other_party, may_offer, accord_by, accord_of, offers_said}
use Rattle.lobby_desk.specs.History.{Step, comes, has_come, shown_by, player_said, player_after, players_in, player_in, is_drop, is_pairing, name_as, name_for, name_behind, name_through, name_before, name_in, ActsUnder, ActsRight, NoActs, NoDrops, sort_asks, IsOf, open_in, known_in, offers_in, accord_in, is_agreement, IsArbiter, MayPair, AsksNow, HasAsked, HasPaired, IsDropOf, IsJoinOf, IsNoticeOf, IsRight, AreWhole, AllRight, AllTold, IsRun}
use Rattle.lobby_words.proofs.Numbers.{number_small}
use Rattle.lobby_words.proofs.ByName.{named_is}
use Rattle.lobby_table.proofs.Sent.{is_said_same}
use Rattle.server_answers.specs.Entered.{Entered, entered_in}
use Rattle.server_answers.proofs.DoneActs.{entered_only}
use Rattle.lobby_desk.proofs.Carry.{act_does, as_does, pair_does, room_does, dropped_does, arbiter_does, barred_does, link_does, join_does, stranger_does, OfOrder, Orders, planned_orders}
use Rattle.lobby_desk.proofs.As.{as_whole, as_acts, pair_whole, pair_acts}
use Rattle.lobby_desk.proofs.Lines.{show_whole, fen_whole, pgn_whole, join_whole, join_line_acts, list_whole, name_whole, show_reads, fen_reads, pgn_reads, list_reads, name_names}

-- for whom the connection acts after a plan
asked_who : (s : Standing) (plan : Plan) (before : Option Identity) → who_noted plan before ≡ before → who_noted (asked s plan) before ≡ before
asked_who s plan before h =
    elim s.is_here as (λ b. who_noted (if b then plan else plans.Refuse refusals.NoServer) before ≡ before) [ true ↦ h | false ↦ refl ]

login_who : (holder before : Option Identity) → who_noted (login_plan holder) before ≡ shown_by holder before
login_who None before = refl
login_who (Some who) before = refl

watch_who : (s : Standing) (who : Identity) (game : Option ℕ) (before : Option Identity) → who_noted (numbered_plan sorts.Watch s who game) before ≡ before
watch_who s who None before = refl
watch_who s who (Some game) before =
    elim s.is_full as (λ b. who_noted (if b then asked s (plans.Refuse refusals.TooManyWatched) else asked s (plans.Watch game)) before ≡ before) [
      | true ↦ asked_who s (plans.Refuse refusals.TooManyWatched) before refl
      | false ↦ asked_who s (plans.Watch game) before refl
    ]

leave_who : (s : Standing) (who : Identity) (game : Option ℕ) (before : Option Identity) → who_noted (numbered_plan sorts.Leave s who game) before ≡ before
leave_who s who None before = refl
leave_who s who (Some game) before = refl

line_who : (s : Standing) (who : Identity) (game : Option ℕ) (before : Option Identity) → who_noted (numbered_plan sorts.Line s who game) before ≡ before
line_who s who None before = refl
line_who s who (Some game) before = asked_who s (plans.Line game) before refl

-- that it acts for whom it did
abbrev Notes : Option Identity → Plan → Type 0
Notes before plan = who_noted plan before ≡ before

sorted_who : (sort : Sort) (s : Standing) (who : Identity) (game : Option ℕ) (before : Option Identity) →
    who_noted (sort_plan sort s who game) before ≡ (if is_login_sort sort then shown_by s.holder before else before)
sorted_who sorts.Read s who game before = asked_who s plans.Read before refl
sorted_who sorts.Act s who game before = act_does (Notes before) s who (λ _. refl) (λ _. refl)
sorted_who sorts.As s who game before = as_does (Notes before) s who (λ _. refl) (λ _ _. refl)
sorted_who sorts.Pair s who game before = pair_does (Notes before) s who (λ _. refl) (λ _. refl) (λ _ _ _. refl)
sorted_who sorts.Unpair s who game before = refl
sorted_who sorts.Offers s who game before = refl
sorted_who sorts.Drop s who game before = dropped_does (Notes before) s who game (λ _. refl) (λ _. refl)
sorted_who sorts.Login s who game before = login_who s.holder before
sorted_who sorts.Players s who game before = refl
sorted_who sorts.Who s who game before = refl
sorted_who sorts.Pause s who game before = arbiter_does (Notes before) who plans.Pause (λ _. refl) refl
sorted_who sorts.Resume s who game before = arbiter_does (Notes before) who plans.Resume (λ _. refl) refl
sorted_who (sorts.Call call) s who game before =
    arbiter_does (Notes before) who (barred s.bar (plans.Call call)) (λ _. refl)
    (barred_does (Notes before) s.bar (plans.Call call) (λ _. refl) refl)
sorted_who sorts.Link s who game before = link_does (Notes before) who changes.NewLink s.linked (λ _. refl) (λ _. refl)
sorted_who sorts.Close s who game before = link_does (Notes before) who changes.NoLink s.linked (λ _. refl) (λ _. refl)
sorted_who sorts.Player s who game before = join_does (Notes before) who s.newcomer (λ _. refl) (λ _. refl) (λ _. refl)
sorted_who sorts.Lobby s who game before = asked_who s plans.Lobby before refl
sorted_who sorts.LeaveLobby s who game before = refl
sorted_who sorts.Watch s who game before = watch_who s who game before
sorted_who sorts.Leave s who game before = leave_who s who game before
sorted_who sorts.Line s who game before = line_who s who game before
sorted_who sorts.Room s who game before = room_does (Notes before) s who game (λ _. refl) (λ _. refl)
sorted_who sorts.Moves s who game before = refl
sorted_who sorts.Name s who game before = refl
sorted_who sorts.Nothing s who game before = refl

strange_who : (b : Bool) (s : Standing) (before : Option Identity) →
    who_noted (stranger_plan b s) before ≡ (if b then shown_by s.holder before else before)
strange_who true s before = login_who s.holder before
strange_who false s before = refl

who_who : (who : Option Identity) (sort : Sort) (s : Standing) (game : Option ℕ) (before : Option Identity) →
    who_noted (who_plan who sort s game) before ≡ (if is_login_sort sort then shown_by s.holder before else before)
who_who None sort s game before = strange_who (is_login_sort sort) s before
who_who (Some who) sort s game before = sorted_who sort s who game before

planned_who : (m : Bool) (sort : Sort) (s : Standing) (game : Option ℕ) (before : Option Identity) →
    who_noted (plan_of m sort s game) before ≡ (if m && is_login_sort sort then shown_by s.holder before else before)
planned_who false sort s game before = refl
planned_who true sort s game before = who_who s.who sort s game before

-- lines that change nothing
abbrev pub AllRead : List (List ℕ) → Type 0
AllRead lines = AllByRecursion (λ line. sort_of line ≡ sorts.Read) lines

-- what lines for a message have to be, that asks this, and whose acts stand under this name
record Good (asks : List (List ℕ)) (under : Option (List ℕ)) (said : Option (List ℕ)) (lines : List (List ℕ)) (then_said : Option (List ℕ)) : Type 0 where
  acts : ActsRight under said lines
  drops : NoDrops lines
  of_text : IsOf asks lines
  whole : AreWhole lines
  name : then_said ≡ name_through said lines

no_acts : (lines : List (List ℕ)) → AllRead lines → NoActs lines
no_acts [] h = tt
no_acts (line ∷ lines) h = (ap is_act_sort h.0, no_acts lines h.1)

no_drops : (lines : List (List ℕ)) → AllRead lines → NoDrops lines
no_drops [] h = tt
no_drops (line ∷ lines) h = (ap is_drop_sort h.0, no_drops lines h.1)

acts_under : (said : Option (List ℕ)) (lines : List (List ℕ)) (name : List ℕ) → AllRead lines → ActsUnder said lines name
acts_under said [] name h = tt
acts_under said (line ∷ lines) name h =
    (λ is. absurd (false≢true (sym (ap is_act_sort h.0) ∙ is)), acts_under (name_behind said line) lines name h.1)

name_stays : (said : Option (List ℕ)) (line : List ℕ) → sort_of line ≡ sorts.Read → name_behind said line ≡ said
name_stays said line h = ap (λ sort. if is_name_sort sort then Some (rest_of line) else said) h

names_stay : (said : Option (List ℕ)) (lines : List (List ℕ)) → AllRead lines → name_through said lines ≡ said
names_stay said [] h = refl
names_stay said (line ∷ lines) h =
    ap (λ name. name_through name lines) (name_stays said line h.0) ∙ names_stay said lines h.1

reads_right : (under said : Option (List ℕ)) (lines : List (List ℕ)) → AllRead lines → ActsRight under said lines
reads_right None said lines h = no_acts lines h
reads_right (Some name) said lines h = acts_under said lines name h

reads_good : (under said : Option (List ℕ)) (lines : List (List ℕ)) → AllRead lines → AreWhole lines → Good lines under said lines said
reads_good under said lines h whole = record {
  acts = reads_right under said lines h;
  drops = no_drops lines h;
  of_text = inr (inl refl);
  whole = whole;
  name = sym (names_stay said lines h);
}

none_good : (asks : List (List ℕ)) (under said : Option (List ℕ)) → Good asks under said [] said
none_good asks under said = record {
  acts = reads_right under said [] tt;
  drops = tt;
  of_text = inl refl;
  whole = tt;
  name = refl;
}

-- lines of an act under a name, with what is asked behind it
record Under (text name : List ℕ) (rest : List (List ℕ)) (said : Option (List ℕ)) (lines : List (List ℕ)) (then_said : Option (List ℕ)) : Type 0 where
  acts : ActsUnder said lines name
  of_text : IsOf (text ∷ rest) lines
  whole : AreWhole lines
  later : then_said ≡ name_through said lines

-- where this name was said last or not
said_or_not : (text name : List ℕ) (rest : List (List ℕ)) → AllRead rest → AreWhole rest → (said : Option (List ℕ)) (sort : Sort) →
    is_message text ≡ true → sort_of text ≡ sort → is_name_sort sort ≡ false → IsName name → (b : Bool) → (b ≡ true → said ≡ Some name) →
    Under text name rest said (if b then text ∷ rest else name_line name ∷ text ∷ rest) (Some name)
said_or_not text name rest read rest_whole said sort message is no_name named true same =
    let stays : name_behind said text ≡ said = ap (λ (k : Sort). if is_name_sort k then Some (rest_of text) else said) is ∙ ap (λ b. if b then Some (rest_of text) else said) no_name in
    record {
      acts = (λ _. same refl, acts_under (name_behind said text) rest name read);
      of_text = inr (inl refl);
      whole = (message, rest_whole);
      later = sym (names_stay (name_behind said text) rest read ∙ (stays ∙ same refl));
    }
said_or_not text name rest read rest_whole said sort message is no_name named false same =
    let names : sort_of (name_line name) ≡ sorts.Name = name_names name in
    let first : name_behind said (name_line name) ≡ Some name = ap (λ (k : Sort). if is_name_sort k then Some name else said) names in
    let stays : name_behind (name_behind said (name_line name)) text ≡ name_behind said (name_line name) =
    ap (λ (k : Sort). if is_name_sort k then Some (rest_of text) else name_behind said (name_line name)) is
    ∙ ap (λ b. if b then Some (rest_of text) else name_behind said (name_line name)) no_name in
    record {
      acts = (
        λ act. absurd (false≢true (sym (ap is_act_sort names) ∙ act)),
        (λ _. first, acts_under (name_behind (name_behind said (name_line name)) text) rest name read),
      );
      of_text = inr (inr (name, refl));
      whole = (name_whole name named, (message, rest_whole));
      later = sym (names_stay (name_behind (name_behind said (name_line name)) text) rest read ∙ (stays ∙ first));
    }

-- what asks how a game stands
pub notice_read : (game : Option ℕ) → IfSome game (λ g. g < 2 ^ 32) → AllRead (notice_lines game) × AreWhole (notice_lines game)
notice_read None small = (tt, tt)
notice_read (Some game) small = ((show_reads game small, (fen_reads game small, tt)), (show_whole game small, (fen_whole game small, tt)))

-- the game that an act names is small
pub named_small : (text : List ℕ) → IfSome (game_named text) (λ g. g < 2 ^ 32)
named_small text =
    elim (is_pair text) as (λ b. IfSome (if b then None else u32_in (word_of (rest_of (line_said text)))) (λ g. g < 2 ^ 32)) [
      | true ↦ tt
      | false ↦ number_small (word_of (rest_of (line_said text)))
    ]

act_under : (text name : List ℕ) (game : Option ℕ) → IfSome game (λ g. g < 2 ^ 32) → (said : Option (List ℕ)) (sort : Sort) →
    is_message text ≡ true → sort_of text ≡ sort → is_name_sort sort ≡ false → IsName name →
    Under text name (notice_lines game) said (act_lines said name text game) (Some name)
act_under text name game small said sort message is no_name named =
    let asks = notice_read game small in
    said_or_not text name (notice_lines game) asks.0 asks.1 said sort message is no_name named (is_said said name) (is_said_same said name)

-- no drop is among the lines of another act
act_no_drop : (text name : List ℕ) (rest : List (List ℕ)) → AllRead rest → is_drop text ≡ false → (b : Bool) →
    NoDrops (if b then text ∷ rest else name_line name ∷ text ∷ rest)
act_no_drop text name rest read none true = (none, no_drops rest read)
act_no_drop text name rest read none false = (ap is_drop_sort (name_names name), (none, no_drops rest read))

-- a plan by which nothing goes out where the server is not there
asked_good : (asks : List (List ℕ)) (text : List ℕ) (s : Standing) (under said : Option (List ℕ)) (plan : Plan) →
    (IsNamed plan → Good asks under said (lines_of plan said text) (said_after plan said)) → IsNamed (asked s plan) →
    Good asks under said (lines_of (asked s plan) said text) (said_after (asked s plan) said)
asked_good asks text s under said plan h =
    elim s.is_here as (λ b. IsNamed (if b then plan else plans.Refuse refusals.NoServer) →
    Good asks under said (lines_of (if b then plan else plans.Refuse refusals.NoServer) said text)
    (said_after (if b then plan else plans.Refuse refusals.NoServer) said)) [
      | true ↦ h
      | false ↦ λ _. none_good asks under said
    ]

-- the lines of an act
acts_good : (text name : List ℕ) (game : Option ℕ) → IfSome game (λ g. g < 2 ^ 32) → (under said : Option (List ℕ)) → under ≡ Some name →
    is_message text ≡ true → sort_of text ≡ sorts.Act → IsName name →
    Good (text ∷ notice_lines game) under said (act_lines said name text game) (Some name)
acts_good text name game small under said own message is named =
    let lines = act_under text name game small said sorts.Act message is refl named in
    record {
      acts = subst (λ (u : Option (List ℕ)). ActsRight u said (act_lines said name text game)) (sym own) lines.acts;
      drops = act_no_drop text name (notice_lines game) (notice_read game small).0 (ap is_drop_sort is) (is_said said name);
      of_text = lines.of_text;
      whole = lines.whole;
      name = lines.later;
    }

-- the name under which the act of a message stands that is no `as`
own_name : (players : List Player) (agreed : Bool) (who : Identity) (text : List ℕ) → sort_of text ≡ sorts.Act →
    name_for players agreed (Some who) text ≡ Some who.name
own_name players agreed who text is =
    ap (λ (sort : Sort). if is_as_sort sort then name_as players who.is_arbiter text
    else (if is_pair_sort sort then name_as players (who.is_arbiter || agreed) text else Some who.name)) is

-- where nothing bars it
barred_good : (asks : List (List ℕ)) (text : List ℕ) (bar : Option Refusal) (under said : Option (List ℕ)) (plan : Plan) →
    (IsNamed plan → Good asks under said (lines_of plan said text) (said_after plan said)) → IsNamed (barred bar plan) →
    Good asks under said (lines_of (barred bar plan) said text) (said_after (barred bar plan) said)
barred_good asks text None under said plan h = h
barred_good asks text (Some refusal) under said plan h = λ _. none_good asks under said

entered_good : (asks : List (List ℕ)) (text : List ℕ) (s : Standing) (under said : Option (List ℕ)) (plan : Plan) →
    (IsNamed plan → Good asks under said (lines_of plan said text) (said_after plan said)) → IsNamed (entered_plan s plan) →
    Good asks under said (lines_of (entered_plan s plan) said text) (said_after (entered_plan s plan) said)
entered_good asks text s under said plan h =
    asked_good asks text s under said (barred s.bar plan) (barred_good asks text s.bar under said plan h)

-- the plan for an act
act_good : (players : List Player) (agreed : Bool) (text : List ℕ) (s : Standing) (said : Option (List ℕ)) (who : Identity) → is_message text ≡ true →
    sort_of text ≡ sorts.Act → IsNamed (act_plan s who) →
    Good (text ∷ notice_lines (game_named text)) (name_for players agreed (Some who) text) said (lines_of (act_plan s who) said text) (said_after (act_plan s who) said)
act_good players agreed text s said who message is =
    elim (s.is_paused && not who.is_arbiter) as (λ b. IsNamed (if b then plans.Refuse refusals.EntriesPaused else entered_plan s (plans.Act who)) →
    Good (text ∷ notice_lines (game_named text)) (name_for players agreed (Some who) text) said (lines_of (if b then plans.Refuse refusals.EntriesPaused else entered_plan s (plans.Act who)) said text)
    (said_after (if b then plans.Refuse refusals.EntriesPaused else entered_plan s (plans.Act who)) said)) [
      | true ↦ λ _. none_good (text ∷ notice_lines (game_named text)) (name_for players agreed (Some who) text) said
      | false ↦ entered_good (text ∷ notice_lines (game_named text)) text s (name_for players agreed (Some who) text) said (plans.Act who)
          (λ named. acts_good text who.name (game_named text) (named_small text) (name_for players agreed (Some who) text) said (own_name players agreed who text is) message is named)
    ]

-- the plan for an act of an arbiter under the name of another
named_good : (text : List ℕ) (s : Standing) (who : Identity) (named under said : Option (List ℕ)) → under ≡ named → is_message text ≡ true →
    sort_of text ≡ sorts.As → IsNamed (named_plan s who named) →
    Good (as_line text ∷ notice_lines (game_named text)) under said (lines_of (named_plan s who named) said text) (said_after (named_plan s who named) said)
named_good text s who None under said same message is = λ named. none_good (as_line text ∷ notice_lines (game_named text)) under said
named_good text s who (Some name) under said same message is =
    entered_good (as_line text ∷ notice_lines (game_named text)) text s under said (plans.ActAs who name)
    (λ named. acts_good (as_line text) name (game_named text) (named_small text) under said same (as_whole text message is) (as_acts text is) named)

arbiter_good : (players : List Player) (agreed : Bool) (text : List ℕ) (s : Standing) (said : Option (List ℕ)) (who : Identity) → s.named ≡ known_name players (as_name text) →
    is_message text ≡ true → sort_of text ≡ sorts.As → (b : Bool) → who.is_arbiter ≡ b →
    IsNamed (if b then named_plan s who s.named else plans.Refuse refusals.NotArbiter) →
    Good (as_line text ∷ notice_lines (game_named text)) (name_for players agreed (Some who) text) said (lines_of (if b then named_plan s who s.named else plans.Refuse refusals.NotArbiter) said text)
    (said_after (if b then named_plan s who s.named else plans.Refuse refusals.NotArbiter) said)
arbiter_good players agreed text s said who other message is true arbiter =
    named_good text s who s.named (name_for players agreed (Some who) text) said
    (ap (λ (sort : Sort). if is_as_sort sort then name_as players who.is_arbiter text
    else (if is_pair_sort sort then name_as players (who.is_arbiter || agreed) text else Some who.name)) is
    ∙ (ap (λ (b : Bool). name_as players b text) arbiter ∙ sym other)) message is
arbiter_good players agreed text s said who other message is false arbiter = λ named. none_good (as_line text ∷ notice_lines (game_named text)) (name_for players agreed (Some who) text) said

as_good : (players : List Player) (agreed : Bool) (text : List ℕ) (s : Standing) (said : Option (List ℕ)) (who : Identity) → s.named ≡ known_name players (as_name text) →
    is_message text ≡ true → sort_of text ≡ sorts.As → IsNamed (as_plan s who) →
    Good (as_line text ∷ notice_lines (game_named text)) (name_for players agreed (Some who) text) said (lines_of (as_plan s who) said text) (said_after (as_plan s who) said)
as_good players agreed text s said who other message is = arbiter_good players agreed text s said who other message is who.is_arbiter refl

-- the plan for a pairing
black_good : (text : List ℕ) (s : Standing) (who : Identity) (white : List ℕ) (black under said : Option (List ℕ)) → under ≡ Some white → is_message text ≡ true →
    sort_of text ≡ sorts.Pair → IsNamed (black_plan s who white black) →
    Good (pair_line text ∷ []) under said (lines_of (black_plan s who white black) said text) (said_after (black_plan s who white black) said)
black_good text s who white None under said same message is = λ _. none_good (pair_line text ∷ []) under said
black_good text s who white (Some black) under said same message is =
    asked_good (pair_line text ∷ []) text s under said (plans.Pair who white black)
    (λ named. acts_good (pair_line text) white None tt under said same (pair_whole text message is) (pair_acts text) named)

white_good : (text : List ℕ) (s : Standing) (who : Identity) (white under said : Option (List ℕ)) → under ≡ white → is_message text ≡ true →
    sort_of text ≡ sorts.Pair → IsNamed (white_plan s who white) →
    Good (pair_line text ∷ []) under said (lines_of (white_plan s who white) said text) (said_after (white_plan s who white) said)
white_good text s who None under said same message is = λ _. none_good (pair_line text ∷ []) under said
white_good text s who (Some white) under said same message is = black_good text s who white s.black under said same message is

-- the name under which the acts of a pairing stand
pair_name : (players : List Player) (agreed : Bool) (who : Identity) (text : List ℕ) → sort_of text ≡ sorts.Pair →
    name_for players agreed (Some who) text ≡ name_as players (who.is_arbiter || agreed) text
pair_name players agreed who text is =
    ap (λ (sort : Sort). if is_as_sort sort then name_as players who.is_arbiter text
    else (if is_pair_sort sort then name_as players (who.is_arbiter || agreed) text else Some who.name)) is

-- one of who is no arbiter
agreed_good : (text : List ℕ) (s : Standing) (who : Identity) (under said : Option (List ℕ)) → under ≡ s.named → is_message text ≡ true →
    sort_of text ≡ sorts.Pair → IsNamed (agreed_plan s who) →
    Good (pair_line text ∷ []) under said (lines_of (agreed_plan s who) said text) (said_after (agreed_plan s who) said)
agreed_good text s who under said same message is =
    elim s.is_paused as (λ b. IsNamed (if b then plans.Refuse refusals.EntriesPaused else barred s.pair_bar (white_plan s who s.named)) →
    Good (pair_line text ∷ []) under said (lines_of (if b then plans.Refuse refusals.EntriesPaused else barred s.pair_bar (white_plan s who s.named)) said text)
    (said_after (if b then plans.Refuse refusals.EntriesPaused else barred s.pair_bar (white_plan s who s.named)) said)) [
      | true ↦ λ _. none_good (pair_line text ∷ []) under said
      | false ↦ barred_good (pair_line text ∷ []) text s.pair_bar under said (white_plan s who s.named)
          (white_good text s who s.named under said same message is)
    ]

offered_good : (players : List Player) (text : List ℕ) (s : Standing) (said : Option (List ℕ)) (who : Identity) → s.named ≡ known_name players (as_name text) →
    is_message text ≡ true → sort_of text ≡ sorts.Pair → who.is_arbiter ≡ false → (accord : Accord) → s.accord ≡ accord →
    IsNamed (offered_plan s who accord) →
    Good (pair_line text ∷ []) (name_for players (is_agreement s.accord) (Some who) text) said (lines_of (offered_plan s who accord) said text)
    (said_after (offered_plan s who accord) said)
offered_good players text s said who other message is player accords.Nothing same =
    λ _. none_good (pair_line text ∷ []) (name_for players (is_agreement s.accord) (Some who) text) said
offered_good players text s said who other message is player accords.Offered same =
    λ _. none_good (pair_line text ∷ []) (name_for players (is_agreement s.accord) (Some who) text) said
offered_good players text s said who other message is player accords.Agreed same =
    agreed_good text s who (name_for players (is_agreement s.accord) (Some who) text) said
    (pair_name players (is_agreement s.accord) who text is
    ∙ (ap (λ (b : Bool). name_as players (b || is_agreement s.accord) text) player
    ∙ (ap (λ (a : Accord). name_as players (is_agreement a) text) same ∙ sym other))) message is

paired_good : (players : List Player) (text : List ℕ) (s : Standing) (said : Option (List ℕ)) (who : Identity) → s.named ≡ known_name players (as_name text) →
    is_message text ≡ true → sort_of text ≡ sorts.Pair → (b : Bool) → who.is_arbiter ≡ b →
    IsNamed (if b then white_plan s who s.named else offered_plan s who s.accord) →
    Good (pair_line text ∷ []) (name_for players (is_agreement s.accord) (Some who) text) said (lines_of (if b then white_plan s who s.named else offered_plan s who s.accord) said text)
    (said_after (if b then white_plan s who s.named else offered_plan s who s.accord) said)
paired_good players text s said who other message is true arbiter =
    white_good text s who s.named (name_for players (is_agreement s.accord) (Some who) text) said
    (pair_name players (is_agreement s.accord) who text is
    ∙ (ap (λ (b : Bool). name_as players (b || is_agreement s.accord) text) arbiter ∙ sym other)) message is
paired_good players text s said who other message is false player =
    offered_good players text s said who other message is player s.accord refl

pair_good : (players : List Player) (text : List ℕ) (s : Standing) (said : Option (List ℕ)) (who : Identity) → s.named ≡ known_name players (as_name text) →
    is_message text ≡ true → sort_of text ≡ sorts.Pair → IsNamed (pair_plan s who) →
    Good (pair_line text ∷ []) (name_for players (is_agreement s.accord) (Some who) text) said (lines_of (pair_plan s who) said text) (said_after (pair_plan s who) said)
pair_good players text s said who other message is = paired_good players text s said who other message is who.is_arbiter refl

-- the plan for a drop asks who is seated
show_good : (under said : Option (List ℕ)) (game : ℕ) → game < 2 ^ 32 →
    Good (game_line (codes "show ") game ∷ []) under said (game_line (codes "show ") game ∷ []) said
show_good under said game small =
    reads_good under said (game_line (codes "show ") game ∷ []) (show_reads game small, tt) (show_whole game small, tt)

dropped_good : (text : List ℕ) (s : Standing) (who : Identity) (under said : Option (List ℕ)) (game : Option ℕ) → IfSome game (λ g. g < 2 ^ 32) →
    IsNamed (numbered_plan sorts.Drop s who game) →
    Good (sort_asks sorts.Drop (or_0 game) text) under said (lines_of (numbered_plan sorts.Drop s who game) said text) (said_after (numbered_plan sorts.Drop s who game) said)
dropped_good text s who under said None small = λ named. none_good (sort_asks sorts.Drop 0 text) under said
dropped_good text s who under said (Some game) small =
    asked_good (game_line (codes "show ") game ∷ []) text s under said (plans.Drop who game) (λ _. show_good under said game small)

login_good : (asks : List (List ℕ)) (text : List ℕ) (under said : Option (List ℕ)) (holder : Option Identity) →
    Good asks under said (lines_of (login_plan holder) said text) (said_after (login_plan holder) said)
login_good asks text under said None = none_good asks under said
login_good asks text under said (Some one) = none_good asks under said

watch_good : (text : List ℕ) (s : Standing) (who : Identity) (under said : Option (List ℕ)) (game : Option ℕ) → IfSome game (λ g. g < 2 ^ 32) →
    IsNamed (numbered_plan sorts.Watch s who game) →
    Good (sort_asks sorts.Watch (or_0 game) text) under said (lines_of (numbered_plan sorts.Watch s who game) said text) (said_after (numbered_plan sorts.Watch s who game) said)
watch_good text s who under said None small = λ named. none_good (sort_asks sorts.Watch 0 text) under said
watch_good text s who under said (Some game) small =
    elim s.is_full as (λ b. IsNamed (if b then asked s (plans.Refuse refusals.TooManyWatched) else asked s (plans.Watch game)) →
    Good (sort_asks sorts.Watch game text) under said (lines_of (if b then asked s (plans.Refuse refusals.TooManyWatched) else asked s (plans.Watch game)) said text)
    (said_after (if b then asked s (plans.Refuse refusals.TooManyWatched) else asked s (plans.Watch game)) said)) [
      | true ↦ asked_good (sort_asks sorts.Watch game text) text s under said (plans.Refuse refusals.TooManyWatched) (λ _. none_good (sort_asks sorts.Watch game text) under said)
      | false ↦ asked_good (sort_asks sorts.Watch game text) text s under said (plans.Watch game) (λ _.
          reads_good under said (game_line (codes "show ") game ∷ game_line (codes "fen ") game ∷ [])
          (show_reads game small, (fen_reads game small, tt)) (show_whole game small, (fen_whole game small, tt)))
    ]

-- a plan of an arbiter's by which nothing goes out
silent_good : (text : List ℕ) (who : Identity) (under said : Option (List ℕ)) (plan : Plan) →
    Good [] under said (lines_of plan said text) (said_after plan said) →
    Good [] under said (lines_of (arbiter_plan who plan) said text) (said_after (arbiter_plan who plan) said)
silent_good text who under said plan h =
    arbiter_does (λ p. Good [] under said (lines_of p said text) (said_after p said)) who plan (λ _. none_good [] under said) h

order_good : (text : List ℕ) (s : Standing) (who : Identity) (under said : Option (List ℕ)) (change : Change) →
    Good [] under said (lines_of (arbiter_plan who (order_plan change s.linked)) said text)
    (said_after (arbiter_plan who (order_plan change s.linked)) said)
order_good text s who under said change =
    link_does (λ p. Good [] under said (lines_of p said text) (said_after p said)) who change s.linked (λ _. none_good [] under said)
    (λ _. none_good [] under said)

join_good : (text : List ℕ) (s : Standing) (who : Identity) (under said : Option (List ℕ)) →
    Good [] under said (lines_of (arbiter_plan who (newcomer_plan s.newcomer)) said text)
    (said_after (arbiter_plan who (newcomer_plan s.newcomer)) said)
join_good text s who under said =
    join_does (λ p. Good [] under said (lines_of p said text) (said_after p said)) who s.newcomer (λ _. none_good [] under said)
    (λ _. none_good [] under said) (λ _. none_good [] under said)

leave_good : (text : List ℕ) (s : Standing) (who : Identity) (under said : Option (List ℕ)) (game : Option ℕ) →
    Good [] under said (lines_of (numbered_plan sorts.Leave s who game) said text) (said_after (numbered_plan sorts.Leave s who game) said)
leave_good text s who under said None = none_good [] under said
leave_good text s who under said (Some game) = none_good [] under said

line_good : (text : List ℕ) (s : Standing) (who : Identity) (under said : Option (List ℕ)) (game : Option ℕ) → IfSome game (λ g. g < 2 ^ 32) →
    IsNamed (numbered_plan sorts.Line s who game) →
    Good (sort_asks sorts.Line (or_0 game) text) under said (lines_of (numbered_plan sorts.Line s who game) said text) (said_after (numbered_plan sorts.Line s who game) said)
line_good text s who under said None small named = none_good (sort_asks sorts.Line 0 text) under said
line_good text s who under said (Some game) small named =
    asked_good (game_line (codes "pgn ") game ∷ []) text s under said (plans.Line game)
    (λ _. reads_good under said (game_line (codes "pgn ") game ∷ []) (pgn_reads game small, tt) (pgn_whole game small, tt)) named

-- each plan for a message of who acts for a player
sorted_good : (players : List Player) (text : List ℕ) (s : Standing) (said : Option (List ℕ)) (who : Identity) (game : Option ℕ) (sort : Sort) →
    s.named ≡ known_name players (as_name text) → is_message text ≡ true → sort_of text ≡ sort → IfSome game (λ g. g < 2 ^ 32) →
    IsNamed (sort_plan sort s who game) →
    Good (sort_asks sort (or_0 game) text) (name_for players (is_agreement s.accord) (Some who) text) said (lines_of (sort_plan sort s who game) said text) (said_after (sort_plan sort s who game) said)
sorted_good players text s said who game sorts.Read other message is small named =
    asked_good (text ∷ []) text s (name_for players (is_agreement s.accord) (Some who) text) said plans.Read
    (λ _. reads_good (name_for players (is_agreement s.accord) (Some who) text) said (text ∷ []) (is, tt) (message, tt)) named
sorted_good players text s said who game sorts.Act other message is small named = act_good players (is_agreement s.accord) text s said who message is named
sorted_good players text s said who game sorts.As other message is small named = as_good players (is_agreement s.accord) text s said who other message is named
sorted_good players text s said who game sorts.Pair other message is small named = pair_good players text s said who other message is named
sorted_good players text s said who game sorts.Unpair other message is small named = none_good [] (name_for players (is_agreement s.accord) (Some who) text) said
sorted_good players text s said who game sorts.Offers other message is small named = none_good [] (name_for players (is_agreement s.accord) (Some who) text) said
sorted_good players text s said who game sorts.Drop other message is small named = dropped_good text s who (name_for players (is_agreement s.accord) (Some who) text) said game small named
sorted_good players text s said who game sorts.Login other message is small named = login_good [] text (name_for players (is_agreement s.accord) (Some who) text) said s.holder
sorted_good players text s said who game sorts.Players other message is small named = none_good [] (name_for players (is_agreement s.accord) (Some who) text) said
sorted_good players text s said who game sorts.Who other message is small named = none_good [] (name_for players (is_agreement s.accord) (Some who) text) said
sorted_good players text s said who game sorts.Pause other message is small named =
    silent_good text who (name_for players (is_agreement s.accord) (Some who) text) said plans.Pause (none_good [] (name_for players (is_agreement s.accord) (Some who) text) said)
sorted_good players text s said who game sorts.Resume other message is small named =
    silent_good text who (name_for players (is_agreement s.accord) (Some who) text) said plans.Resume (none_good [] (name_for players (is_agreement s.accord) (Some who) text) said)
sorted_good players text s said who game (sorts.Call call) other message is small named =
    let under = name_for players (is_agreement s.accord) (Some who) text in
    silent_good text who under said (barred s.bar (plans.Call call))
    (barred_does (λ p. Good [] under said (lines_of p said text) (said_after p said)) s.bar (plans.Call call)
    (λ _. none_good [] under said) (none_good [] under said))
sorted_good players text s said who game sorts.Link other message is small named = order_good text s who (name_for players (is_agreement s.accord) (Some who) text) said changes.NewLink
sorted_good players text s said who game sorts.Close other message is small named = order_good text s who (name_for players (is_agreement s.accord) (Some who) text) said changes.NoLink
sorted_good players text s said who game sorts.Player other message is small named = join_good text s who (name_for players (is_agreement s.accord) (Some who) text) said
sorted_good players text s said who game sorts.Lobby other message is small named =
    asked_good (codes "list" ∷ []) text s (name_for players (is_agreement s.accord) (Some who) text) said plans.Lobby
    (λ _. reads_good (name_for players (is_agreement s.accord) (Some who) text) said (codes "list" ∷ []) (list_reads, tt) (list_whole, tt)) named
sorted_good players text s said who game sorts.LeaveLobby other message is small named = none_good [] (name_for players (is_agreement s.accord) (Some who) text) said
sorted_good players text s said who game sorts.Watch other message is small named = watch_good text s who (name_for players (is_agreement s.accord) (Some who) text) said game small named
sorted_good players text s said who game sorts.Leave other message is small named = leave_good text s who (name_for players (is_agreement s.accord) (Some who) text) said game
sorted_good players text s said who game sorts.Line other message is small named = line_good text s who (name_for players (is_agreement s.accord) (Some who) text) said game small named
sorted_good players text s said who game sorts.Room other message is small named =
    let under = name_for players (is_agreement s.accord) (Some who) text in
    room_does (λ p. Good [] under said (lines_of p said text) (said_after p said)) s who game (λ _. none_good [] under said) (λ _. none_good [] under said)
sorted_good players text s said who game sorts.Moves other message is small named = none_good [] (name_for players (is_agreement s.accord) (Some who) text) said
sorted_good players text s said who game sorts.Name other message is small named = none_good [] (name_for players (is_agreement s.accord) (Some who) text) said
sorted_good players text s said who game sorts.Nothing other message is small named = none_good [] (name_for players (is_agreement s.accord) (Some who) text) said

-- and each of who acts for nobody
strange_good : (asks : List (List ℕ)) (text : List ℕ) (under said : Option (List ℕ)) (b : Bool) (s : Standing) →
    Good asks under said (lines_of (stranger_plan b s) said text) (said_after (stranger_plan b s) said)
strange_good asks text under said true s = login_good asks text under said s.holder
strange_good asks text under said false s = none_good asks under said

who_good : (players : List Player) (text : List ℕ) (s : Standing) (said : Option (List ℕ)) (who : Option Identity) (game : Option ℕ) (sort : Sort) →
    s.named ≡ known_name players (as_name text) → is_message text ≡ true → sort_of text ≡ sort → IfSome game (λ g. g < 2 ^ 32) →
    IsNamed (who_plan who sort s game) →
    Good (sort_asks sort (or_0 game) text) (name_for players (is_agreement s.accord) who text) said (lines_of (who_plan who sort s game) said text) (said_after (who_plan who sort s game) said)
who_good players text s said None game sort other message is small named =
    strange_good (sort_asks sort (or_0 game) text) text (name_for players (is_agreement s.accord) None text) said (is_login_sort sort) s
who_good players text s said (Some who) game sort other message is small named =
    sorted_good players text s said who game sort other message is small named

plan_good : (players : List Player) (text : List ℕ) (s : Standing) (said : Option (List ℕ)) (game : Option ℕ) (m : Bool) (sort : Sort) →
    s.named ≡ known_name players (as_name text) → is_message text ≡ m → sort_of text ≡ sort → IfSome game (λ g. g < 2 ^ 32) →
    IsNamed (plan_of m sort s game) →
    Good (sort_asks sort (or_0 game) text) (name_for players (is_agreement s.accord) s.who text) said (lines_of (plan_of m sort s game) said text) (said_after (plan_of m sort s game) said)
plan_good players text s said game false sort other message is small named = none_good (sort_asks sort (or_0 game) text) (name_for players (is_agreement s.accord) s.who text) said
plan_good players text s said game true sort other message is small named =
    who_good players text s said s.who game sort other message is small named

-- a message
said_good : (players : List Player) (old : View) (c : ℕ) (text : List ℕ) (lines : List (List ℕ)) (tells : List MessageValue) (new : View) →
    (h : IsSaid players old c text lines tells new) →
    Good (sort_asks (sort_of text) (or_0 (u32_in (rest_of text))) text) (name_for players (is_agreement h.standing.accord) (old.who c) text) old.said lines new.said
said_good players old c text lines tells new h =
    let game = u32_in (rest_of text) in
    let named : IsNamed (plan_of (is_message text) (sort_of text) h.standing (u32_in (rest_of text))) = subst IsNamed h.planned h.named in
    let planned = plan_good players text h.standing old.said game (is_message text) (sort_of text) h.other refl refl (number_small (rest_of text)) named in
    let done = subst (λ (plan : Plan). Good (sort_asks (sort_of text) (or_0 (u32_in (rest_of text))) text) (name_for players (is_agreement h.standing.accord) h.standing.who text) old.said (lines_of plan old.said text) (said_after plan old.said)) (sym h.planned) planned in
    let by = subst (λ (who : Option Identity). Good (sort_asks (sort_of text) (or_0 (u32_in (rest_of text))) text) (name_for players (is_agreement h.standing.accord) who text) old.said (lines_of h.plan old.said text) (said_after h.plan old.said)) h.who done in
    let lined = subst (λ (ls : List (List ℕ)). Good (sort_asks (sort_of text) (or_0 (u32_in (rest_of text))) text) (name_for players (is_agreement h.standing.accord) (old.who c) text) old.said ls (said_after h.plan old.said)) (sym h.lines_are) by in
    subst (λ (n : Option (List ℕ)). Good (sort_asks (sort_of text) (or_0 (u32_in (rest_of text))) text) (name_for players (is_agreement h.standing.accord) (old.who c) text) old.said lines n) (sym h.said_is) lined

-- what is known is the same if each part of it is
abbrev known_of : List Owed → ℕ → List ℕ → List ℕ → List Watch → List ℕ → List Seat → List Pairing → List RefusedActs → Option Following → Bool → Known
known_of owed left begun last watches table seats pairings refused follows misnamed = record {
  owed = owed;
  left = left;
  begun = begun;
  last = last;
  watches = watches;
  table = table;
  seats = seats;
  pairings = pairings;
  refused = refused;
  follows = follows;
  misnamed = misnamed;
}

same_known : (a b : Known) → a.owed ≡ b.owed → a.left ≡ b.left → a.begun ≡ b.begun → a.last ≡ b.last → a.watches ≡ b.watches →
    a.table ≡ b.table → a.seats ≡ b.seats → a.pairings ≡ b.pairings → a.refused ≡ b.refused → a.follows ≡ b.follows → a.misnamed ≡ b.misnamed → a ≡ b
same_known a b owed left begun last watches table seats pairings refused follows misnamed =
    ap (λ (x : List Owed). known_of x a.left a.begun a.last a.watches a.table a.seats a.pairings a.refused a.follows a.misnamed) owed
    ∙ (ap (λ (x : ℕ). known_of b.owed x a.begun a.last a.watches a.table a.seats a.pairings a.refused a.follows a.misnamed) left
    ∙ (ap (λ (x : List ℕ). known_of b.owed b.left x a.last a.watches a.table a.seats a.pairings a.refused a.follows a.misnamed) begun
    ∙ (ap (λ (x : List ℕ). known_of b.owed b.left b.begun x a.watches a.table a.seats a.pairings a.refused a.follows a.misnamed) last
    ∙ (ap (λ (x : List Watch). known_of b.owed b.left b.begun b.last x a.table a.seats a.pairings a.refused a.follows a.misnamed) watches
    ∙ (ap (λ (x : List ℕ). known_of b.owed b.left b.begun b.last b.watches x a.seats a.pairings a.refused a.follows a.misnamed) table
    ∙ (ap (λ (x : List Seat). known_of b.owed b.left b.begun b.last b.watches b.table x a.pairings a.refused a.follows a.misnamed) seats
    ∙ (ap (λ (x : List Pairing). known_of b.owed b.left b.begun b.last b.watches b.table b.seats x a.refused a.follows a.misnamed) pairings
    ∙ (ap (λ (x : List RefusedActs). known_of b.owed b.left b.begun b.last b.watches b.table b.seats b.pairings x a.follows a.misnamed) refused
    ∙ (ap (λ (x : Option Following). known_of b.owed b.left b.begun b.last b.watches b.table b.seats b.pairings b.refused x a.misnamed) follows
    ∙ ap (λ (x : Bool). known_of b.owed b.left b.begun b.last b.watches b.table b.seats b.pairings b.refused b.follows x) misnamed)))))))))

-- who watches depends on who acts for a player alone
watch_alike : (f g : ℕ → Bool) → ((c : ℕ) → f c ≡ g c) → (before : List ℕ) (o : Owed) (watches : List Watch) →
    watch_heard f before o watches ≡ watch_heard g before o watches
watch_alike f g same before Nobody watches = refl
watch_alike f g same before (Naming name) watches = refl
watch_alike f g same before (Asker c ForItself) watches = refl
watch_alike f g same before (Asker c ForPositions) watches = refl
watch_alike f g same before (Asker c ForTable) watches = refl
watch_alike f g same before (Asker c (ForGame game)) watches = ap (λ (b : Bool). watch_if (is_shown before && b) c game watches) (same c)
watch_alike f g same before (Asker c (ForAct by text)) watches = refl
watch_alike f g same before (Dropper c by text) watches = refl
watch_alike f g same before (Pairer c by black text) watches = refl
watch_alike f g same before (Followers game act is_table) watches = refl
watch_alike f g same before Behind watches = refl

watch_next_alike : (f g : ℕ → Bool) → ((c : ℕ) → f c ≡ g c) → (before : List ℕ) (owed : List Owed) (watches : List Watch) →
    watch_next f before owed watches ≡ watch_next g before owed watches
watch_next_alike f g same before [] watches = refl
watch_next_alike f g same before (o ∷ owed) watches = watch_alike f g same before o watches

watches_kept_alike : (f g : ℕ → Bool) → ((c : ℕ) → f c ≡ g c) → (watches : List Watch) → watches_kept f watches ≡ watches_kept g watches
watches_kept_alike f g same [] = refl
watches_kept_alike f g same (w ∷ watches) =
    ap (λ (b : Bool). cond b (w ∷ watches_kept f watches) (watches_kept f watches)) (same w.by)
    ∙ ap (λ (rest : List Watch). cond (g w.by) (w ∷ rest) rest) (watches_kept_alike f g same watches)

watches_alike : (event : DeskInput) (f g : ℕ → Bool) → ((c : ℕ) → f c ≡ g c) → (k : Known) → watches_now event f k ≡ watches_now event g k
watches_alike (Opened c) f g same k = refl
watches_alike (Closed c) f g same k = refl
watches_alike (Said c text at) f g same k =
    ap (λ (b : Bool). if is_message text && is_leave_sort (sort_of text) && b then left_game c (u32_in (rest_of text)) k.watches else k.watches) (same c)
watches_alike (Hurried c) f g same k = refl
watches_alike (Heard line) f g same k =
    ap (λ (watches : List Watch). if is_counted k line then watches else k.watches) (watch_next_alike f g same k.last k.owed k.watches)
watches_alike (Renewed later) f g same k = watches_kept_alike f g same k.watches
watches_alike (Linked c text later token) f g same k = watches_kept_alike f g same k.watches
watches_alike (ServerTurned is_here) f g same k = refl
watches_alike (Found finding) f g same k = refl

-- and so does who is told of the table
table_alike : (f g : ℕ → Bool) → ((c : ℕ) → f c ≡ g c) → (o : Owed) (table : List ℕ) → table_heard f o table ≡ table_heard g o table
table_alike f g same Nobody table = refl
table_alike f g same (Naming name) table = refl
table_alike f g same (Asker c ForItself) table = refl
table_alike f g same (Asker c ForPositions) table = refl
table_alike f g same (Asker c ForTable) table = ap (λ (b : Bool). sit_if b c table) (same c)
table_alike f g same (Asker c (ForGame game)) table = refl
table_alike f g same (Asker c (ForAct by text)) table = refl
table_alike f g same (Dropper c by text) table = refl
table_alike f g same (Pairer c by black text) table = refl
table_alike f g same (Followers game act is_table) table = refl
table_alike f g same Behind table = refl

table_next_alike : (f g : ℕ → Bool) → ((c : ℕ) → f c ≡ g c) → (owed : List Owed) (table : List ℕ) → table_next f owed table ≡ table_next g owed table
table_next_alike f g same [] table = refl
table_next_alike f g same (o ∷ owed) table = table_alike f g same o table

table_kept_alike : (f g : ℕ → Bool) → ((c : ℕ) → f c ≡ g c) → (table : List ℕ) → table_kept f table ≡ table_kept g table
table_kept_alike f g same [] = refl
table_kept_alike f g same (c ∷ table) =
    ap (λ (b : Bool). cond b (c ∷ table_kept f table) (table_kept f table)) (same c)
    ∙ ap (λ (rest : List ℕ). cond (g c) (c ∷ rest) rest) (table_kept_alike f g same table)

tables_alike : (event : DeskInput) (f g : ℕ → Bool) → ((c : ℕ) → f c ≡ g c) → (k : Known) → table_now event f k ≡ table_now event g k
tables_alike (Opened c) f g same k = refl
tables_alike (Closed c) f g same k = refl
tables_alike (Said c text at) f g same k =
    ap (λ (b : Bool). if leaves_table text && b then risen c k.table else k.table) (same c)
tables_alike (Hurried c) f g same k = refl
tables_alike (Heard line) f g same k =
    ap (λ (table : List ℕ). if is_counted k line then table else k.table) (table_next_alike f g same k.owed k.table)
tables_alike (Renewed later) f g same k = table_kept_alike f g same k.table
tables_alike (Linked c text later token) f g same k = table_kept_alike f g same k.table
tables_alike (ServerTurned is_here) f g same k = refl
tables_alike (Found finding) f g same k = refl

known_alike : (event : DeskInput) (by : List ℕ) (lines : List (List ℕ)) (f g : ℕ → Bool) → ((c : ℕ) → f c ≡ g c) → (k : Known) →
    known_now event by lines f k ≡ known_now event by lines g k
known_alike event by lines f g same k =
    same_known (known_now event by lines f k) (known_now event by lines g k) refl refl refl refl (watches_alike event f g same k) (tables_alike event f g same k) refl refl refl refl refl

-- what is known of the connections and of the server then is what the past says
known_then : (event : DeskInput) (by : List ℕ) (lines : List (List ℕ)) (f g : ℕ → Bool) → ((c : ℕ) → f c ≡ g c) → (old new past : Known) →
    IsKnown event by lines f old new → old ≡ past → new ≡ known_now event by lines g past
known_then event by lines f g same old new past known is =
    same_known new (known_now event by lines f old) known.owed known.left known.begun known.last known.watches known.table known.seats known.pairings known.refused known.follows known.misnamed
    ∙ (known_alike event by lines f g same old ∙ ap (λ (k : Known). known_now event by lines g k) is)

-- for whom a connection acts that speaks
speaker_alike : (f g : ℕ → Option Identity) → ((c : ℕ) → f c ≡ g c) → (event : DeskInput) → speaker f event ≡ speaker g event
speaker_alike f g same (Opened c) = refl
speaker_alike f g same (Closed c) = refl
speaker_alike f g same (Said c text at) = ap name_of (same c)
speaker_alike f g same (Hurried c) = refl
speaker_alike f g same (Heard line) = refl
speaker_alike f g same (Renewed later) = refl
speaker_alike f g same (Linked c text later token) = ap name_of (same c)
speaker_alike f g same (ServerTurned is_here) = refl
speaker_alike f g same (Found finding) = refl

-- what connections are told is right by what the past says
all_alike : (f g : ℕ → Bool) → ((c : ℕ) → f c ≡ g c) → (first : List MessageValue) (text : List ℕ) (tells : List MessageValue) →
    AreToldAll f first text tells → AreToldAll g first text tells
all_alike f g same first text tells h = (h.0, λ c. h.1 c ∙ same c, h.2)

-- who hears it is alike where who is open and who acts are
hears_alike : (call : Call) (f g : ℕ → Bool) → ((c : ℕ) → f c ≡ g c) → (p q : ℕ → Option Identity) → ((c : ℕ) → p c ≡ q c) → (c : ℕ) →
    hears call f p c ≡ hears call g q c
hears_alike calls.StopClocks f g same p q acts c = same c
hears_alike calls.StartClocks f g same p q acts c = same c
hears_alike calls.Announce f g same p q acts c = same c
hears_alike calls.Decide f g same p q acts c =
    ap (λ (b : Bool). acting p c && b) (same c) ∙ ap (λ (w : Option Identity). is_some w && g c) (acts c)

some_alike : (f g : ℕ → Bool) → ((c : ℕ) → f c ≡ g c) → (p q : ℕ → Option Identity) → ((c : ℕ) → p c ≡ q c) → (said : List ℕ) (c : ℕ) (tells : List MessageValue) →
    AreToldSome f p said c tells → AreToldSome g q said c tells
some_alike f g same p q acts said c tells some =
    let one : AreToldCall (hears some.call g q) (name_of (p c)) said some.call (to_one c some.text) tells =
    record { to = some.told.to; all = λ d. some.told.all d ∙ hears_alike some.call f g same p q acts d; told = some.told.told } in
    record {
      call = some.call;
      asked = some.asked;
      arbiter = subst IsArbiter (acts c) some.arbiter;
      text = some.text;
      told = subst (λ (w : Option Identity). AreToldCall (hears some.call g q) (name_of w) said some.call (to_one c some.text) tells) (acts c) one;
    }

said_alike : (f g : ℕ → Bool) → ((c : ℕ) → f c ≡ g c) → (p q : ℕ → Option Identity) → ((c : ℕ) → p c ≡ q c) → (table : List ℕ) (said : List ℕ) (lines : List (List ℕ)) (c : ℕ) (tells : List MessageValue) →
    IsToldOrSent f table p said lines c tells → IsToldOrSent g table q said lines c tells
said_alike f g same p q acts table said [] c tells h =
    elim h [
      | inl one ↦ inl one
      | inr more ↦ elim more [
        | inl two ↦ inr (inl two)
        | inr rest ↦ elim rest [
          | inl some ↦ inr (inr (inl (some_alike f g same p q acts said c tells some)))
          | inr moves ↦ inr (inr (inr moves))
        ]
      ]
    ]
said_alike f g same p q acts table said (line ∷ lines) c tells h = h

told_alike : (event : DeskInput) (lines : List (List ℕ)) (tells : List MessageValue) (f g : ℕ → Bool) → ((c : ℕ) → f c ≡ g c) →
    (p q : ℕ → Option Identity) → ((c : ℕ) → p c ≡ q c) → (k : Known) → IsTold event lines tells f p k → IsTold event lines tells g q k
told_alike (Opened c) lines tells f g same p q acts k h = h
told_alike (Closed c) lines tells f g same p q acts k h = h
told_alike (Said c text at) lines tells f g same p q acts k h = (
  sym (same c) ∙ h.0,
  h.1,
  said_alike f g same p q acts k.table text lines c tells h.2,
)
told_alike (Hurried c) lines tells f g same p q acts k h = (sym (same c) ∙ h.0, h.1, h.2)
told_alike (Heard line) lines tells f g same p q acts k h = h
told_alike (Renewed later) lines tells f g same p q acts k h = h
told_alike (Linked c text later token) lines tells f g same p q acts k h = (
  sym (same c) ∙ h.0,
  h.1,
  h.2 ∙ ap (λ (w : Option Identity). change_told (name_of w) c text token) (acts c),
)
told_alike (ServerTurned is_here) lines tells f g same p q acts k h = all_alike f g same (lost k.owed) (presence is_here) tells h
told_alike (Found finding) lines tells f g same p q acts k h = all_alike f g same (map to_log (found_texts finding)) (found_line finding) tells h

-- each drop, and each pairing, that waits was asked for
abbrev pub IsAsked : List Player → List Step → Owed → Type 0
IsAsked players past (Dropper c by text) = HasAsked players past c text
IsAsked players past (Pairer c by black text) = HasPaired players past c black text
IsAsked players past _ = Unit {0}

abbrev pub AreAsked : List Player → List Step → List Owed → Type 0
AreAsked players past owed = AllByRecursion (IsAsked players past) owed

asked_later : (players : List Player) (s : Step) (past : List Step) (o : Owed) → IsAsked players past o → IsAsked players (s ∷ past) o
asked_later players s past Nobody h = tt
asked_later players s past (Naming name) h = tt
asked_later players s past (Asker c ask) h = tt
asked_later players s past (Dropper c by text) h = inr h
asked_later players s past (Pairer c by black text) h = inr h
asked_later players s past (Followers game act is_table) h = tt
asked_later players s past Behind h = tt

are_asked_later : (players : List Player) (s : Step) (past : List Step) (owed : List Owed) → AreAsked players past owed → AreAsked players (s ∷ past) owed
are_asked_later players s past [] h = tt
are_asked_later players s past (o ∷ owed) h = (asked_later players s past o h.0, are_asked_later players s past owed h.1)

are_asked_both : (players : List Player) (past : List Step) (a b : List Owed) → AreAsked players past a → AreAsked players past b → AreAsked players past (a ++ b)
are_asked_both players past [] b h k = k
are_asked_both players past (o ∷ owed) b h k = (h.0, are_asked_both players past owed b h.1 k)

wait_last : (players : List Player) (past : List Step) (o : Owed) → IsAsked players past o → (lines : List (List ℕ)) → AreAsked players past (owed_last o lines)
wait_last players past o h [] = tt
wait_last players past o h (line ∷ []) = (h, tt)
wait_last players past o h (line ∷ next ∷ lines) = (tt, wait_last players past o h (next ∷ lines))

wait_acted : (players : List Player) (past : List Step) (o : Owed) → IsAsked players past o → (lines : List (List ℕ)) →
    AreAsked players past (owed_acted o lines)
wait_acted players past o h [] = tt
wait_acted players past o h (act ∷ []) = (h, tt)
wait_acted players past o h (name ∷ act ∷ []) = (tt, (h, tt))
wait_acted players past o h (act ∷ show ∷ fen ∷ []) = (h, (tt, (tt, tt)))
wait_acted players past o h (name ∷ act ∷ show ∷ fen ∷ lines) = (tt, wait_acted players past o h (act ∷ show ∷ fen ∷ lines))

wait_some : (players : List Player) (past : List Step) (o : Owed) → IsAsked players past o → (line : List ℕ) (lines : List (List ℕ)) →
    AreAsked players past (owed_some o line lines)
wait_some players past Nobody h line lines = wait_last players past Nobody h (line ∷ lines)
wait_some players past (Naming name) h line lines = wait_last players past (Naming name) h (line ∷ lines)
wait_some players past (Asker c ForItself) h line lines = wait_last players past (Asker c ForItself) h (line ∷ lines)
wait_some players past (Asker c ForPositions) h line lines = wait_last players past (Asker c ForPositions) h (line ∷ lines)
wait_some players past (Asker c ForTable) h line lines = wait_last players past (Asker c ForTable) h (line ∷ lines)
wait_some players past (Asker c (ForGame game)) h line lines = wait_last players past (Asker c (ForGame game)) h (line ∷ lines)
wait_some players past (Asker c (ForAct by text)) h line lines = wait_acted players past (Asker c (ForAct by text)) h (line ∷ lines)
wait_some players past (Dropper c by text) h line lines = wait_last players past (Dropper c by text) h (line ∷ lines)
wait_some players past (Pairer c by black text) h line lines = wait_acted players past (Pairer c by black text) h (line ∷ lines)
wait_some players past (Followers game act is_table) h line lines = wait_last players past (Followers game act is_table) h (line ∷ lines)
wait_some players past Behind h line lines = wait_last players past Behind h (line ∷ lines)

wait_lines : (players : List Player) (past : List Step) (o : Owed) → IsAsked players past o → (lines : List (List ℕ)) →
    AreAsked players past (owed_lines o lines)
wait_lines players past o h [] = tt
wait_lines players past o h (line ∷ lines) = wait_some players past o h line lines

asked_followers : (players : List Player) (past : List Step) (game : Option ℕ) (by text now : List ℕ) → IsAsked players past (followers_of game by text now)
asked_followers players past None by text now = tt
asked_followers players past (Some game) by text now = tt

asked_follower : (players : List Player) (past : List Step) (o : Owed) (now : List ℕ) → IsAsked players past (follower o now)
asked_follower players past Nobody now = tt
asked_follower players past (Naming name) now = tt
asked_follower players past (Asker c ForItself) now = tt
asked_follower players past (Asker c ForPositions) now = tt
asked_follower players past (Asker c ForTable) now = tt
asked_follower players past (Asker c (ForGame game)) now = tt
asked_follower players past (Asker c (ForAct by text)) now = asked_followers players past (asked_after text (act_game now)) by text now
asked_follower players past (Dropper c by text) now = tt
asked_follower players past (Pairer c by black text) now = tt
asked_follower players past (Followers game act is_table) now = tt
asked_follower players past Behind now = tt

asked_answered : (players : List Player) (past : List Step) (owed : List Owed) (now : List ℕ) (lines : List (List ℕ)) → AreAsked players past owed →
    AreAsked players past (owed_answered owed now lines)
asked_answered players past [] now lines h = tt
asked_answered players past (o ∷ owed) now lines h =
    are_asked_both players past owed (owed_lines (follower o now) lines) h.1
    (wait_lines players past (follower o now) (asked_follower players past o now) lines)

asked_heard : (players : List Player) (past : List Step) (owed : List Owed) (now : List ℕ) (lines : List (List ℕ)) → AreAsked players past owed →
    (b : Bool) → AreAsked players past (if b then owed_answered owed now lines else owed)
asked_heard players past owed now lines h true = asked_answered players past owed now lines h
asked_heard players past owed now lines h false = h

-- where something goes out for a message that asks for a drop, a player asks
abbrev pub AsksDrop : Bool → List (List ℕ) → Option Identity → Bool → Type 0
AsksDrop false lines who m = Unit {0}
AsksDrop true [] who m = Unit {0}
AsksDrop true (line ∷ lines) who m = (is_some who ≡ true) × (m ≡ true)

asks_none : (b : Bool) (who : Option Identity) (m : Bool) → AsksDrop b [] who m
asks_none true who m = tt
asks_none false who m = tt

dropped_asks : (s : Standing) (who : Identity) (game : Option ℕ) (said : Option (List ℕ)) (text : List ℕ) →
    AsksDrop true (lines_of (numbered_plan sorts.Drop s who game) said text) (Some who) true
dropped_asks s who None said text = tt
dropped_asks s who (Some game) said text =
    elim s.is_here as (λ h. AsksDrop true (lines_of (if h then plans.Drop who game else plans.Refuse refusals.NoServer) said text) (Some who) true) [
      | true ↦ (refl, refl)
      | false ↦ tt
    ]

sorted_asks : (sort : Sort) (s : Standing) (who : Identity) (game : Option ℕ) (said : Option (List ℕ)) (text : List ℕ) →
    AsksDrop (is_drop_sort sort) (lines_of (sort_plan sort s who game) said text) (Some who) true
sorted_asks sorts.Read s who game said text = tt
sorted_asks sorts.Act s who game said text = tt
sorted_asks sorts.As s who game said text = tt
sorted_asks sorts.Pair s who game said text = tt
sorted_asks sorts.Unpair s who game said text = tt
sorted_asks sorts.Offers s who game said text = tt
sorted_asks sorts.Drop s who game said text = dropped_asks s who game said text
sorted_asks sorts.Login s who game said text = tt
sorted_asks sorts.Players s who game said text = tt
sorted_asks sorts.Who s who game said text = tt
sorted_asks sorts.Pause s who game said text = tt
sorted_asks sorts.Resume s who game said text = tt
sorted_asks (sorts.Call call) s who game said text = tt
sorted_asks sorts.Link s who game said text = tt
sorted_asks sorts.Close s who game said text = tt
sorted_asks sorts.Player s who game said text = tt
sorted_asks sorts.Lobby s who game said text = tt
sorted_asks sorts.LeaveLobby s who game said text = tt
sorted_asks sorts.Watch s who game said text = tt
sorted_asks sorts.Leave s who game said text = tt
sorted_asks sorts.Line s who game said text = tt
sorted_asks sorts.Room s who game said text = tt
sorted_asks sorts.Moves s who game said text = tt
sorted_asks sorts.Name s who game said text = tt
sorted_asks sorts.Nothing s who game said text = tt

strange_asks : (drops b : Bool) (s : Standing) (said : Option (List ℕ)) (text : List ℕ) → AsksDrop drops (lines_of (stranger_plan b s) said text) None true
strange_asks drops b s said text =
    stranger_does (λ p. AsksDrop drops (lines_of p said text) None true) b s (λ _. asks_none drops None true) (λ _. asks_none drops None true)

who_asks : (who : Option Identity) (sort : Sort) (s : Standing) (game : Option ℕ) (said : Option (List ℕ)) (text : List ℕ) →
    AsksDrop (is_drop_sort sort) (lines_of (who_plan who sort s game) said text) who true
who_asks None sort s game said text = strange_asks (is_drop_sort sort) (is_login_sort sort) s said text
who_asks (Some who) sort s game said text = sorted_asks sort s who game said text

asks_at : (m : Bool) (sort : Sort) (s : Standing) (game : Option ℕ) (said : Option (List ℕ)) (text : List ℕ) →
    AsksDrop (is_drop_sort sort) (lines_of (plan_of m sort s game) said text) s.who m
asks_at false sort s game said text = asks_none (is_drop_sort sort) s.who false
asks_at true sort s game said text = who_asks s.who sort s game said text

said_asks : (players : List Player) (old : View) (c : ℕ) (text : List ℕ) (lines : List (List ℕ)) (tells : List MessageValue) (new : View) →
    IsSaid players old c text lines tells new → AsksDrop (is_drop text) lines (old.who c) (is_message text)
said_asks players old c text lines tells new h =
    let planned = asks_at (is_message text) (sort_of text) h.standing (u32_in (rest_of text)) old.said text in
    let by_plan = subst (λ (plan : Plan). AsksDrop (is_drop text) (lines_of plan old.said text) h.standing.who (is_message text)) (sym h.planned) planned in
    let lined = subst (λ (ls : List (List ℕ)). AsksDrop (is_drop text) ls h.standing.who (is_message text)) (sym h.lines_are) by_plan in
    subst (λ (who : Option Identity). AsksDrop (is_drop text) lines who (is_message text)) h.who lined

-- The same of a pairing: who asks is an arbiter, or the two agree; and then a player has the name of Black.
abbrev pub AsksPair : Bool → List (List ℕ) → Bool → Option Identity → Bool → Option (List ℕ) → List ℕ → Type 0
AsksPair false lines agreed who m known black = Unit {0}
AsksPair true [] agreed who m known black = Unit {0}
AsksPair true (line ∷ lines) agreed who m known black = MayPair agreed who × (m ≡ true) × (known ≡ Some black)

pair_none : (b agreed : Bool) (who : Option Identity) (m : Bool) (known : Option (List ℕ)) (black : List ℕ) → AsksPair b [] agreed who m known black
pair_none true agreed who m known black = tt
pair_none false agreed who m known black = tt

-- whether a plan goes out for who may have a pairing made
abbrev PairsBy : List Player → Bool → Option Identity → Option (List ℕ) → List ℕ → Plan → Type 0
PairsBy players agreed who said text plan =
    AsksPair true (lines_of plan said text) agreed who true (known_name players (black_name text)) (black_name text)

black_asks : (players : List Player) (agreed : Bool) (s : Standing) (who : Identity) (white : List ℕ) (black said : Option (List ℕ)) (text : List ℕ) →
    MayPair agreed (Some who) → black ≡ known_name players (black_name text) → PairsBy players agreed (Some who) said text (black_plan s who white black)
black_asks players agreed s who white None said text may same = tt
black_asks players agreed s who white (Some black) said text may same =
    let is : known_name players (black_name text) ≡ Some (black_name text) = sym same ∙ ap Some (sym (named_is players (black_name text) black (sym same))) in
    elim s.is_here as (λ h. PairsBy players agreed (Some who) said text (if h then plans.Pair who white black else plans.Refuse refusals.NoServer)) [
      | true ↦ elim (is_said said white) as (λ b. AsksPair true (if b then pair_line text ∷ [] else name_line white ∷ pair_line text ∷ []) agreed (Some who) true (known_name players (black_name text)) (black_name text)) [
        | true ↦ (may, refl, is)
        | false ↦ (may, refl, is)
      ]
      | false ↦ tt
    ]

white_asks : (players : List Player) (agreed : Bool) (s : Standing) (who : Identity) (white said : Option (List ℕ)) (text : List ℕ) →
    MayPair agreed (Some who) → s.black ≡ known_name players (black_name text) → PairsBy players agreed (Some who) said text (white_plan s who white)
white_asks players agreed s who None said text may same = tt
white_asks players agreed s who (Some white) said text may same = black_asks players agreed s who white s.black said text may same

barred_asks : (players : List Player) (agreed : Bool) (bar : Option Refusal) (who : Identity) (said : Option (List ℕ)) (text : List ℕ) (plan : Plan) →
    PairsBy players agreed (Some who) said text plan → PairsBy players agreed (Some who) said text (barred bar plan)
barred_asks players agreed None who said text plan h = h
barred_asks players agreed (Some refusal) who said text plan h = tt

offered_asks : (players : List Player) (s : Standing) (who : Identity) (said : Option (List ℕ)) (text : List ℕ) →
    s.black ≡ known_name players (black_name text) → (accord : Accord) → s.accord ≡ accord →
    PairsBy players (is_agreement s.accord) (Some who) said text (offered_plan s who accord)
offered_asks players s who said text same accords.Nothing is = tt
offered_asks players s who said text same accords.Offered is = tt
offered_asks players s who said text same accords.Agreed is =
    elim s.is_paused as (λ b. PairsBy players (is_agreement s.accord) (Some who) said text (if b then plans.Refuse refusals.EntriesPaused else barred s.pair_bar (white_plan s who s.named))) [
      | true ↦ tt
      | false ↦ barred_asks players (is_agreement s.accord) s.pair_bar who said text (white_plan s who s.named)
          (white_asks players (is_agreement s.accord) s who s.named said text (inr (ap is_agreement is)) same)
    ]

pair_asks_at : (players : List Player) (s : Standing) (who : Identity) (said : Option (List ℕ)) (text : List ℕ) → s.black ≡ known_name players (black_name text) →
    (b : Bool) → who.is_arbiter ≡ b →
    PairsBy players (is_agreement s.accord) (Some who) said text (if b then white_plan s who s.named else offered_plan s who s.accord)
pair_asks_at players s who said text same true arbiter = white_asks players (is_agreement s.accord) s who s.named said text (inl arbiter) same
pair_asks_at players s who said text same false arbiter = offered_asks players s who said text same s.accord refl

pair_asks : (players : List Player) (s : Standing) (who : Identity) (said : Option (List ℕ)) (text : List ℕ) → s.black ≡ known_name players (black_name text) →
    PairsBy players (is_agreement s.accord) (Some who) said text (pair_plan s who)
pair_asks players s who said text same = pair_asks_at players s who said text same who.is_arbiter refl

sorted_pairs : (players : List Player) (sort : Sort) (s : Standing) (who : Identity) (game : Option ℕ) (said : Option (List ℕ)) (text : List ℕ) →
    s.black ≡ known_name players (black_name text) →
    AsksPair (is_pair_sort sort) (lines_of (sort_plan sort s who game) said text) (is_agreement s.accord) (Some who) true (known_name players (black_name text)) (black_name text)
sorted_pairs players sorts.Read s who game said text same = tt
sorted_pairs players sorts.Act s who game said text same = tt
sorted_pairs players sorts.As s who game said text same = tt
sorted_pairs players sorts.Pair s who game said text same = pair_asks players s who said text same
sorted_pairs players sorts.Unpair s who game said text same = tt
sorted_pairs players sorts.Offers s who game said text same = tt
sorted_pairs players sorts.Drop s who game said text same = tt
sorted_pairs players sorts.Login s who game said text same = tt
sorted_pairs players sorts.Players s who game said text same = tt
sorted_pairs players sorts.Who s who game said text same = tt
sorted_pairs players sorts.Pause s who game said text same = tt
sorted_pairs players sorts.Resume s who game said text same = tt
sorted_pairs players (sorts.Call call) s who game said text same = tt
sorted_pairs players sorts.Link s who game said text same = tt
sorted_pairs players sorts.Close s who game said text same = tt
sorted_pairs players sorts.Player s who game said text same = tt
sorted_pairs players sorts.Lobby s who game said text same = tt
sorted_pairs players sorts.LeaveLobby s who game said text same = tt
sorted_pairs players sorts.Watch s who game said text same = tt
sorted_pairs players sorts.Leave s who game said text same = tt
sorted_pairs players sorts.Line s who game said text same = tt
sorted_pairs players sorts.Room s who game said text same = tt
sorted_pairs players sorts.Moves s who game said text same = tt
sorted_pairs players sorts.Name s who game said text same = tt
sorted_pairs players sorts.Nothing s who game said text same = tt

strange_pairs : (pairs agreed b : Bool) (s : Standing) (said : Option (List ℕ)) (text : List ℕ) (known : Option (List ℕ)) (black : List ℕ) →
    AsksPair pairs (lines_of (stranger_plan b s) said text) agreed None true known black
strange_pairs pairs agreed b s said text known black =
    stranger_does (λ p. AsksPair pairs (lines_of p said text) agreed None true known black) b s
    (λ _. pair_none pairs agreed None true known black) (λ _. pair_none pairs agreed None true known black)

who_pairs : (players : List Player) (who : Option Identity) (sort : Sort) (s : Standing) (game : Option ℕ) (said : Option (List ℕ)) (text : List ℕ) →
    s.black ≡ known_name players (black_name text) →
    AsksPair (is_pair_sort sort) (lines_of (who_plan who sort s game) said text) (is_agreement s.accord) who true (known_name players (black_name text)) (black_name text)
who_pairs players None sort s game said text same =
    strange_pairs (is_pair_sort sort) (is_agreement s.accord) (is_login_sort sort) s said text (known_name players (black_name text)) (black_name text)
who_pairs players (Some who) sort s game said text same = sorted_pairs players sort s who game said text same

pairs_at : (players : List Player) (m : Bool) (sort : Sort) (s : Standing) (game : Option ℕ) (said : Option (List ℕ)) (text : List ℕ) →
    s.black ≡ known_name players (black_name text) →
    AsksPair (is_pair_sort sort) (lines_of (plan_of m sort s game) said text) (is_agreement s.accord) s.who m (known_name players (black_name text)) (black_name text)
pairs_at players false sort s game said text same =
    pair_none (is_pair_sort sort) (is_agreement s.accord) s.who false (known_name players (black_name text)) (black_name text)
pairs_at players true sort s game said text same = who_pairs players s.who sort s game said text same

said_pairs : (players : List Player) (old : View) (c : ℕ) (text : List ℕ) (lines : List (List ℕ)) (tells : List MessageValue) (new : View) →
    (h : IsSaid players old c text lines tells new) →
    AsksPair (is_pairing text) lines (is_agreement h.standing.accord) (old.who c) (is_message text) (known_name players (black_name text)) (black_name text)
said_pairs players old c text lines tells new h =
    let agreed = is_agreement h.standing.accord in
    let known = known_name players (black_name text) in
    let planned = pairs_at players (is_message text) (sort_of text) h.standing (u32_in (rest_of text)) old.said text h.black in
    let by_plan = subst (λ (plan : Plan). AsksPair (is_pairing text) (lines_of plan old.said text) agreed h.standing.who (is_message text) known (black_name text)) (sym h.planned) planned in
    let lined = subst (λ (ls : List (List ℕ)). AsksPair (is_pairing text) ls agreed h.standing.who (is_message text) known (black_name text)) (sym h.lines_are) by_plan in
    subst (λ (who : Option Identity). AsksPair (is_pairing text) lines agreed who (is_message text) known (black_name text)) h.who lined

-- the answer to a message is owed to a drop, or to a pairing, that was asked for, if to any
asked_if_drop : (players : List Player) (past : List Step) (c : ℕ) (by text : List ℕ) (sort : Sort) (game : Option ℕ) →
    (is_drop_sort sort ≡ true → HasAsked players past c text) → (is_pair_sort sort ≡ true → HasPaired players past c (black_name text) text) →
    IsAsked players past (sort_asker sort game c by text)
asked_if_drop players past c by text sorts.Read game h k = tt
asked_if_drop players past c by text sorts.Act game h k = tt
asked_if_drop players past c by text sorts.As game h k = tt
asked_if_drop players past c by text sorts.Pair game h k = k refl
asked_if_drop players past c by text sorts.Unpair game h k = tt
asked_if_drop players past c by text sorts.Offers game h k = tt
asked_if_drop players past c by text sorts.Drop game h k = h refl
asked_if_drop players past c by text sorts.Login game h k = tt
asked_if_drop players past c by text sorts.Players game h k = tt
asked_if_drop players past c by text sorts.Who game h k = tt
asked_if_drop players past c by text sorts.Pause game h k = tt
asked_if_drop players past c by text sorts.Resume game h k = tt
asked_if_drop players past c by text (sorts.Call call) game h k = tt
asked_if_drop players past c by text sorts.Link game h k = tt
asked_if_drop players past c by text sorts.Close game h k = tt
asked_if_drop players past c by text sorts.Player game h k = tt
asked_if_drop players past c by text sorts.Lobby game h k = tt
asked_if_drop players past c by text sorts.LeaveLobby game h k = tt
asked_if_drop players past c by text sorts.Watch game h k = tt
asked_if_drop players past c by text sorts.Leave game h k = tt
asked_if_drop players past c by text sorts.Line game h k = tt
asked_if_drop players past c by text sorts.Room game h k = tt
asked_if_drop players past c by text sorts.Moves game h k = tt
asked_if_drop players past c by text sorts.Name game h k = tt
asked_if_drop players past c by text sorts.Nothing game h k = tt

asked_by : (players : List Player) (past : List Step) (c : ℕ) (text : List ℕ) (at : ℕ) (all : List (List ℕ)) (line : List ℕ) (lines : List (List ℕ)) (tells : List MessageValue) →
    AsksDrop (is_drop text) (line ∷ lines) (player_in players past c) (is_message text) → is_drop text ≡ true →
    HasAsked players (record { event = Said c text at; lines = all; tells = tells } ∷ past) c text
asked_by players past c text at all line lines tells asks is =
    let by = subst (λ (b : Bool). AsksDrop b (line ∷ lines) (player_in players past c) (is_message text)) is asks in
    inl (refl, refl, by.0, by.1, is)

paired_by : (players : List Player) (past : List Step) (c : ℕ) (text : List ℕ) (at : ℕ) (all : List (List ℕ)) (line : List ℕ) (lines : List (List ℕ)) (tells : List MessageValue) →
    AsksPair (is_pairing text) (line ∷ lines) (is_agreement (accord_in players past c text at)) (player_in players past c) (is_message text) (known_name (players_in players past) (black_name text)) (black_name text) →
    is_pairing text ≡ true → HasPaired players (record { event = Said c text at; lines = all; tells = tells } ∷ past) c (black_name text) text
paired_by players past c text at all line lines tells asks is =
    let by = subst (λ (b : Bool). AsksPair b (line ∷ lines) (is_agreement (accord_in players past c text at)) (player_in players past c) (is_message text) (known_name (players_in players past) (black_name text)) (black_name text)) is asks in
    inl (refl, refl, by.0, by.1, is, by.2)

asker_asked : (players : List Player) (past : List Step) (c : ℕ) (by text : List ℕ) (at : ℕ) (all lines : List (List ℕ)) (tells : List MessageValue) →
    AsksDrop (is_drop text) lines (player_in players past c) (is_message text) →
    AsksPair (is_pairing text) lines (is_agreement (accord_in players past c text at)) (player_in players past c) (is_message text) (known_name (players_in players past) (black_name text)) (black_name text) →
    AreAsked players (record { event = Said c text at; lines = all; tells = tells } ∷ past) (owed_lines (asker c by text) lines)
asker_asked players past c by text at all [] tells asks pairs = tt
asker_asked players past c by text at all (line ∷ lines) tells asks pairs =
    wait_lines players (record { event = Said c text at; lines = all; tells = tells } ∷ past) (asker c by text)
    (asked_if_drop players (record { event = Said c text at; lines = all; tells = tells } ∷ past) c by text (sort_of text) (u32_in (rest_of text))
    (asked_by players past c text at all line lines tells asks) (paired_by players past c text at all line lines tells pairs)) (line ∷ lines)

-- what is seen of the desk is what the past says
pub record Agrees (players : List Player) (past : List Step) (now : View) : Type 0 where
  pub who : (c : ℕ) → now.who c ≡ player_in players past c
  pub said : now.said ≡ name_in past
  pub opens : (c : ℕ) → now.is_open c ≡ open_in past c
  pub known : now.known ≡ known_in players past
  pub offers : now.offers ≡ offers_in players past
  pub asked : AreAsked players past now.known.owed
  pub came : (c : ℕ) → has_come past c ≡ true → c < now.next

record DoneGood (players : List Player) (past : List Step) (event : DeskInput) (lines : List (List ℕ)) (now : View) : Type 0 where
  who : (c : ℕ) → now.who c ≡ player_after (players_in players past) event c (player_in players past c)
  said : now.said ≡ name_through (name_before event (name_in past)) lines
  right : IsRight players past event lines
  whole : AreWhole lines

-- a token is looked for where one is shown
shown_if : (m b : Bool) (holder before : Option Identity) →
    (if m && b then shown_by (if b then holder else None) before else before) ≡ (if m && b then shown_by holder before else before)
shown_if true true holder before = refl
shown_if true false holder before = refl
shown_if false b holder before = refl

said_who : (players : List Player) (old : View) (c : ℕ) (text : List ℕ) (lines : List (List ℕ)) (tells : List MessageValue) (new : View) →
    (at : ℕ) → IsSaid players old c text lines tells new → (d : ℕ) → new.who d ≡ player_after players (Said c text at) d (old.who d)
said_who players old c text lines tells new at h d =
    let plan : who_noted h.plan (old.who d) ≡ player_said players text (old.who d) =
    ap (λ (plan : Plan). who_noted plan (old.who d)) h.planned
    ∙ (planned_who (is_message text) (sort_of text) h.standing (u32_in (rest_of text)) (old.who d)
    ∙ (ap (λ (holder : Option Identity). if is_message text && is_login_sort (sort_of text) then shown_by holder (old.who d) else old.who d) h.holder
    ∙ shown_if (is_message text) (is_login_sort (sort_of text)) (holder_of players (rest_of text)) (old.who d))) in
    h.who_is d ∙ ap (λ (one : Option Identity). if c == d then one else old.who d) plan

-- the game that an answer names is small
game_small : (line : List ℕ) (o : Option Entered) → entered_in line ≡ o → IfSome (option_map (λ (e : Entered). e.game) o) (λ g. g < 2 ^ 32)
game_small line None is = tt
game_small line (Some entered) is = (entered_only line entered is).1.game

pub act_game_small : (now : List ℕ) → IfSome (act_game now) (λ g. g < 2 ^ 32)
act_game_small now = game_small (first_line now) (entered_in (first_line now)) refl

pub after_small : (text : List ℕ) (game : Option ℕ) → IfSome game (λ g. g < 2 ^ 32) → IfSome (asked_after text game) (λ g. g < 2 ^ 32)
after_small text game small =
    elim (is_asked_behind text game) as (λ b. IfSome (game_if (not b) game) (λ g. g < 2 ^ 32)) [ true ↦ tt | false ↦ small ]

-- what goes out for an answer
record HeardGood (players : List Player) (past : List Step) (line : List ℕ) (lines : List (List ℕ)) (later : Option (List ℕ)) : Type 0 where
  said : later ≡ name_through (name_in past) lines
  right : (lines ≡ []) ⊎ IsNoticeOf players past line lines ⊎ IsDropOf players past line lines ⊎ IsJoinOf players past line lines
  whole : AreWhole lines

heard_reads : (players : List Player) (past : List Step) (line : List ℕ) (lines : List (List ℕ)) (later : Option (List ℕ)) →
    later ≡ name_in past → AllRead lines → AreWhole lines → (lines ≡ []) ⊎ IsNoticeOf players past line lines → HeardGood players past line lines later
heard_reads players past line lines later said read whole right = record {
  said = said ∙ sym (names_stay (name_in past) lines read);
  right = elim right [ inl none ↦ inl none | inr asks ↦ inr (inl asks) ];
  whole = whole;
}

heard_none : (players : List Player) (past : List Step) (line : List ℕ) (lines : List (List ℕ)) (later : Option (List ℕ)) →
    later ≡ name_in past → lines ≡ [] → HeardGood players past line lines later
heard_none players past line lines later said none =
    heard_reads players past line lines later said (subst AllRead (sym none) tt) (subst AreWhole (sym none) tt) (inl none)

-- a message that asks for a drop, as it was said
pub record WasAsked (text : List ℕ) : Type 0 where
  pub message : is_message text ≡ true
  pub drop : is_drop text ≡ true

asked_now : (players : List Player) (past : List Step) (event : DeskInput) (c : ℕ) (text : List ℕ) → AsksNow players past event c text → WasAsked text
asked_now players past (Opened d) c text h = absurd h
asked_now players past (Closed d) c text h = absurd h
asked_now players past (Said d said at) c text h = record { message = h.3; drop = h.4 }
asked_now players past (Hurried d) c text h = absurd h
asked_now players past (Heard line) c text h = absurd h
asked_now players past (Renewed later) c text h = absurd h
asked_now players past (Linked d said later token) c text h = absurd h
asked_now players past (ServerTurned is_here) c text h = absurd h
asked_now players past (Found finding) c text h = absurd h

pub was_asked : (players : List Player) (past : List Step) (c : ℕ) (text : List ℕ) → HasAsked players past c text → WasAsked text
was_asked players [] c text h = absurd h
was_asked players (s ∷ past) c text h =
    elim h [ inl now ↦ asked_now players past s.event c text now | inr before ↦ was_asked players past c text before ]

-- a sort that is a drop is no name
drop_names_none : (sort : Sort) → is_drop_sort sort ≡ true → is_name_sort sort ≡ false
drop_names_none sorts.Read h = absurd (false≢true h)
drop_names_none sorts.Act h = absurd (false≢true h)
drop_names_none sorts.As h = absurd (false≢true h)
drop_names_none sorts.Pair h = absurd (false≢true h)
drop_names_none sorts.Unpair h = absurd (false≢true h)
drop_names_none sorts.Offers h = absurd (false≢true h)
drop_names_none sorts.Drop h = refl
drop_names_none sorts.Login h = absurd (false≢true h)
drop_names_none sorts.Players h = absurd (false≢true h)
drop_names_none sorts.Who h = absurd (false≢true h)
drop_names_none sorts.Pause h = absurd (false≢true h)
drop_names_none sorts.Resume h = absurd (false≢true h)
drop_names_none (sorts.Call call) h = absurd (false≢true h)
drop_names_none sorts.Link h = absurd (false≢true h)
drop_names_none sorts.Close h = absurd (false≢true h)
drop_names_none sorts.Player h = absurd (false≢true h)
drop_names_none sorts.Lobby h = absurd (false≢true h)
drop_names_none sorts.LeaveLobby h = absurd (false≢true h)
drop_names_none sorts.Watch h = absurd (false≢true h)
drop_names_none sorts.Leave h = absurd (false≢true h)
drop_names_none sorts.Line h = absurd (false≢true h)
drop_names_none sorts.Room h = absurd (false≢true h)
drop_names_none sorts.Moves h = absurd (false≢true h)
drop_names_none sorts.Name h = absurd (false≢true h)
drop_names_none sorts.Nothing h = absurd (false≢true h)

dropped_heard : (players : List Player) (past : List Step) (line : List ℕ) (c : ℕ) (by text : List ℕ) (others : List Owed) →
    (known_in players past).owed ≡ Dropper c by text ∷ others → HasAsked players past c text →
    (lines : List (List ℕ)) (later : Option (List ℕ)) → IsDropped (player_in players past c) (name_in past) (answer (known_in players past).begun line) text lines later →
    HeardGood players past line lines later
dropped_heard players past line c by text others waits asked lines later h =
    let was = was_asked players past c text asked in
    let under = act_under text h.name (game_named text) (named_small text) (name_in past) (sort_of text) was.message refl (drop_names_none (sort_of text) was.drop) h.named in
    record {
      said = h.said_is ∙ (under.later ∙ ap (name_through (name_in past)) (sym h.lines_are));
      right = inr (inr (inl (record {
        c = c;
        by = by;
        text = text;
        asked = asked;
        others = others;
        waits = waits;
        name = h.name;
        named = h.named;
        alone = h.alone;
        may = h.may;
        acts = subst (λ (ls : List (List ℕ)). ActsUnder (name_in past) ls h.name) (sym h.lines_are) under.acts;
        of_text = subst (λ (ls : List (List ℕ)). IsOf (text ∷ notice_lines (game_named text)) ls) (sym h.lines_are) under.of_text;
      })));
      whole = subst AreWhole (sym h.lines_are) under.whole;
    }

paired_heard : (players : List Player) (past : List Step) (line : List ℕ) (c : ℕ) (by black text : List ℕ) (others : List Owed) →
    (known_in players past).owed ≡ Pairer c by black text ∷ others → HasPaired players past c black text → (game : Option ℕ) →
    act_game (answer (known_in players past).begun line) ≡ game → IfSome game (λ g. g < 2 ^ 32) →
    (lines : List (List ℕ)) (later : Option (List ℕ)) → IsPaired game (name_in past) black lines later → HeardGood players past line lines later
paired_heard players past line c by black text others waits paired None opened small lines later h = heard_none players past line lines later h.1 h.0
paired_heard players past line c by black text others waits paired (Some game) opened small lines later h =
    let under = act_under (join_line game) black None tt (name_in past) sorts.Act (join_whole game small) (join_line_acts game) refl h.2 in
    record {
      said = h.1 ∙ (under.later ∙ ap (name_through (name_in past)) (sym h.0));
      right = inr (inr (inr (record {
        c = c;
        by = by;
        black = black;
        text = text;
        paired = paired;
        others = others;
        waits = waits;
        game = game;
        opened = opened;
        acts = subst (λ (ls : List (List ℕ)). ActsUnder (name_in past) ls black) (sym h.0) under.acts;
        of_game = subst (λ (ls : List (List ℕ)). IsOf (join_line game ∷ []) ls) (sym h.0) under.of_text;
      })));
      whole = subst AreWhole (sym h.0) under.whole;
    }

sent_for : (players : List Player) (past : List Step) (who : ℕ → Option Identity) → ((c : ℕ) → who c ≡ player_in players past c) → (line : List ℕ) (o : Owed) (others : List Owed) → (known_in players past).owed ≡ o ∷ others →
    IsAsked players past o → (lines : List (List ℕ)) (later : Option (List ℕ)) →
    IsSentFor who o (name_in past) (answer (known_in players past).begun line) lines later → HeardGood players past line lines later
sent_for players past who same line Nobody others waits asked lines later h = heard_none players past line lines later h.1 h.0
sent_for players past who same line (Naming name) others waits asked lines later h = heard_none players past line lines later h.1 h.0
sent_for players past who same line (Asker c ForItself) others waits asked lines later h = heard_none players past line lines later h.1 h.0
sent_for players past who same line (Asker c ForPositions) others waits asked lines later h = heard_none players past line lines later h.1 h.0
sent_for players past who same line (Asker c ForTable) others waits asked lines later h = heard_none players past line lines later h.1 h.0
sent_for players past who same line (Asker c (ForGame game)) others waits asked lines later h = heard_none players past line lines later h.1 h.0
sent_for players past who same line (Asker c (ForAct by text)) others waits asked lines later h =
    let now = answer (known_in players past).begun line in
    let asks = notice_read (asked_after text (act_game now)) (after_small text (act_game now) (act_game_small now)) in
    heard_reads players past line lines later h.1 (subst AllRead (sym h.0) asks.0) (subst AreWhole (sym h.0) asks.1)
    (inr (record { c = c; by = by; text = text; others = others; waits = waits; lines_are = h.0 }))
sent_for players past who same line (Dropper c by text) others waits asked lines later h =
    elim h [
      | inl none ↦ heard_none players past line lines later none.said_is none.none
      | inr goes ↦ dropped_heard players past line c by text others waits asked lines later
          (subst (λ (w : Option Identity). IsDropped w (name_in past) (answer (known_in players past).begun line) text lines later) (same c) goes)
    ]
sent_for players past who same line (Pairer c by black text) others waits asked lines later h =
    let now = answer (known_in players past).begun line in
    paired_heard players past line c by black text others waits asked (act_game now) refl (act_game_small now) lines later h
sent_for players past who same line (Followers game act is_table) others waits asked lines later h = heard_none players past line lines later h.1 h.0
sent_for players past who same line Behind others waits asked lines later h = heard_none players past line lines later h.1 h.0

sent_next : (players : List Player) (past : List Step) (who : ℕ → Option Identity) → ((c : ℕ) → who c ≡ player_in players past c) → (line : List ℕ) (owed : List Owed) → (known_in players past).owed ≡ owed →
    AreAsked players past owed → (lines : List (List ℕ)) (later : Option (List ℕ)) →
    IsSentNext who owed (name_in past) (answer (known_in players past).begun line) lines later → HeardGood players past line lines later
sent_next players past who same line [] waits asked lines later h = heard_none players past line lines later h.1 h.0
sent_next players past who same line (o ∷ owed) waits asked lines later h = sent_for players past who same line o owed waits asked.0 lines later h

sent_heard : (players : List Player) (past : List Step) (who : ℕ → Option Identity) → ((c : ℕ) → who c ≡ player_in players past c) → (line : List ℕ) (owed : List Owed) → (known_in players past).owed ≡ owed →
    AreAsked players past owed → (lines : List (List ℕ)) (later : Option (List ℕ)) (b : Bool) →
    IsSentHeard who b owed (name_in past) (answer (known_in players past).begun line) lines later → HeardGood players past line lines later
sent_heard players past who same line owed waits asked lines later false h = heard_none players past line lines later h.1 h.0
sent_heard players past who same line owed waits asked lines later true h = sent_next players past who same line owed waits asked lines later h

heard_good : (players : List Player) (past : List Step) (old : View) (line : List ℕ) (lines : List (List ℕ)) (now : View) →
    Agrees players past old → IsHeard old line lines now → HeardGood players past line lines now.said
heard_good players past old line lines now agrees h =
    let k = known_in players past in
    let said = subst (λ (n : Option (List ℕ)). IsSentHeard old.who (is_counted old.known line) old.known.owed n (answer old.known.begun line) lines now.said) agrees.said h.sent in
    let known = subst (λ (k : Known). IsSentHeard old.who (is_counted k line) k.owed (name_in past) (answer k.begun line) lines now.said) agrees.known said in
    sent_heard players past old.who agrees.who line k.owed refl (subst (λ (k : Known). AreAsked players past k.owed) agrees.known agrees.asked) lines now.said (is_counted k line) known

-- no number comes that came before
not_come : (b : Bool) (c : ℕ) → (b ≡ true → c < c) → b ≡ false
not_come false c h = refl
not_come true c h = let less : c < c = h refl in absurd (omega (arith, less))

-- each number that came is below the next
came_more : (a b : Bool) (d c old now : ℕ) → d ≡ old → now ≡ d + 1 → (a ≡ true → d ≡ c) → (b ≡ true → c < old) → (a || b) ≡ true → c < now
came_more true b d c old now is next same before h = let one : d ≡ c = same refl in omega (arith, is, next, one)
came_more false b d c old now is next same before h = let less : c < old = before h in omega (arith, is, next, less)

came_then : (players : List Player) (past : List Step) (old : View) (event : DeskInput) (lines : List (List ℕ)) (tells : List MessageValue) (now : View) →
    Agrees players past old → IsDone (players_in players past) old event lines tells now →
    (c : ℕ) → (comes event c || has_come past c) ≡ true → c < now.next
came_then players past old (Opened d) lines tells now agrees step c h =
    came_more (d == c) (has_come past c) d c old.next now.next step.number step.next_is (Decides-eqb d c).0 (agrees.came c) h
came_then players past old (Closed d) lines tells now agrees step c h = subst (λ (n : ℕ). c < n) (sym step.next_is) (agrees.came c h)
came_then players past old (Said d text at) lines tells now agrees step c h = subst (λ (n : ℕ). c < n) (sym step.0.next_is) (agrees.came c h)
came_then players past old (Hurried d) lines tells now agrees step c h = subst (λ (n : ℕ). c < n) (sym step.next_is) (agrees.came c h)
came_then players past old (Heard line) lines tells now agrees step c h = subst (λ (n : ℕ). c < n) (sym step.next_is) (agrees.came c h)
came_then players past old (Renewed later) lines tells now agrees step c h = subst (λ (n : ℕ). c < n) (sym step.next_is) (agrees.came c h)
came_then players past old (Linked d text later token) lines tells now agrees step c h = subst (λ (n : ℕ). c < n) (sym step.0.next_is) (agrees.came c h)
came_then players past old (ServerTurned is_here) lines tells now agrees step c h = subst (λ (n : ℕ). c < n) (sym step.next_is) (agrees.came c h)
came_then players past old (Found finding) lines tells now agrees step c h = subst (λ (n : ℕ). c < n) (sym step.next_is) (agrees.came c h)

none_done : (players : List Player) (past : List Step) (event : DeskInput) (lines : List (List ℕ)) (now : View) →
    (lines ≡ [] → IsRight players past event lines) → lines ≡ [] → now.said ≡ name_before event (name_in past) →
    ((c : ℕ) → now.who c ≡ player_after (players_in players past) event c (player_in players past c)) → DoneGood players past event lines now
none_done players past event lines now right none said who = record {
  who = who;
  said = said ∙ ap (name_through (name_before event (name_in past))) (sym none);
  right = right none;
  whole = subst AreWhole (sym none) tt;
}

-- for whom a connection acts when the players are others
renewed_who : (players : List Player) (past : List Step) (old : View) (later : List Player) (lines : List (List ℕ)) (now : View) →
    Agrees players past old → IsRenewed (players_in players past) old later lines now → (d : ℕ) →
    now.who d ≡ renewed (players_in players past) later (player_in players past d)
renewed_who players past old later lines now agrees step d =
    step.who_is d ∙ ap (λ (before : Option Identity). renewed (players_in players past) later before) (agrees.who d)

-- who asks for a link
linked_orders : (players : List Player) (old : View) (c : ℕ) (text : List ℕ) (later : List Player) (token : List ℕ) →
    (step : IsLinked players old c text later token) → Orders (is_message text) (sort_of text) step.standing step.order
linked_orders players old c text later token step =
    subst (OfOrder (Orders (is_message text) (sort_of text) step.standing)) step.planned
    (planned_orders (is_message text) (sort_of text) step.standing (u32_in (rest_of text)))

-- ---- what is offered

-- it depends on for whom each connection acts alone
agreed_alike : (f g : ℕ → Option Identity) → ((c : ℕ) → f c ≡ g c) → (other text : List ℕ) (at : ℕ) (offers : List Offered) →
    is_agreed f other text at offers ≡ is_agreed g other text at offers
agreed_alike f g same other text at [] = refl
agreed_alike f g same other text at (o ∷ offers) =
    ap (λ (w : Option Identity). (bytes_eq o.text text && (bytes_eq o.by other && (is_named w o.by && nat_le (at - o.at) 600000)))
    || is_agreed f other text at offers) (same o.from)
    ∙ ap (λ (b : Bool). is_answered g other text at o || b) (agreed_alike f g same other text at offers)

accord_same : (players : List Player) (f g : ℕ → Option Identity) → ((c : ℕ) → f c ≡ g c) → (who : Option Identity) (text : List ℕ) (at : ℕ) (offers : List Offered) →
    accord_by players f who text at offers ≡ accord_by players g who text at offers
accord_same players f g same None text at offers = refl
accord_same players f g same (Some who) text at offers =
    ap (λ (b : Bool). if may_offer players who text then (if b then accords.Agreed else accords.Offered) else accords.Nothing)
    (agreed_alike f g same (other_party who.name text) text at offers)

pub accord_alike : (players : List Player) (f g : ℕ → Option Identity) → ((c : ℕ) → f c ≡ g c) → (c : ℕ) (text : List ℕ) (at : ℕ) (offers : List Offered) →
    accord_of players f c text at offers ≡ accord_of players g c text at offers
accord_alike players f g same c text at offers =
    accord_same players f g same (f c) text at offers
    ∙ ap (λ (w : Option Identity). accord_by players g w text at offers) (same c)

offers_alike : (players : List Player) (f g : ℕ → Option Identity) → ((c : ℕ) → f c ≡ g c) → (event : DeskInput) (offers : List Offered) →
    offers_now players f event offers ≡ offers_now players g event offers
offers_alike players f g same (Opened c) offers = refl
offers_alike players f g same (Closed c) offers = refl
offers_alike players f g same (Said c text at) offers =
    ap (λ (a : Accord). offers_said a (f c) c text at offers) (accord_alike players f g same c text at offers)
    ∙ ap (λ (w : Option Identity). offers_said (accord_of players g c text at offers) w c text at offers) (same c)
offers_alike players f g same (Hurried c) offers = refl
offers_alike players f g same (Heard line) offers = refl
offers_alike players f g same (Renewed later) offers = refl
offers_alike players f g same (Linked c text later token) offers = refl
offers_alike players f g same (ServerTurned is_here) offers = refl
offers_alike players f g same (Found finding) offers = refl

-- what is offered then is what the past says
offers_then : (players : List Player) (past : List Step) (event : DeskInput) (old now : View) → Agrees players past old →
    now.offers ≡ offers_now (players_in players past) old.who event old.offers →
    now.offers ≡ offers_now (players_in players past) (player_in players past) event (offers_in players past)
offers_then players past event old now agrees is =
    is ∙ (offers_alike (players_in players past) old.who (player_in players past) agrees.who event old.offers
    ∙ ap (offers_now (players_in players past) (player_in players past) event) agrees.offers)

-- what a message is between two players, as its plan has it
abbrev agreement_in : List Player → List Step → ℕ → List ℕ → ℕ → Bool
agreement_in players past c text at = is_agreement (accord_in players past c text at)

said_accord : (players : List Player) (past : List Step) (old : View) (c : ℕ) (text : List ℕ) (at : ℕ) (lines : List (List ℕ)) (tells : List MessageValue) (now : View) →
    Agrees players past old → (h : IsSaid (players_in players past) old c text lines tells now) → h.standing.at ≡ at →
    is_agreement h.standing.accord ≡ agreement_in players past c text at
said_accord players past old c text at lines tells now agrees h is =
    let list = players_in players past in
    ap is_agreement (h.accord
    ∙ (ap (λ (t : ℕ). accord_of list old.who c text t old.offers) is
    ∙ (accord_alike list old.who (player_in players past) agrees.who c text at old.offers
    ∙ ap (accord_of list (player_in players past) c text at) agrees.offers)))

done_good : (players : List Player) (past : List Step) (old : View) (event : DeskInput) (lines : List (List ℕ)) (tells : List MessageValue) (now : View) →
    Agrees players past old → IsDone (players_in players past) old event lines tells now → DoneGood players past event lines now
done_good players past old (Opened c) lines tells now agrees step =
    none_done players past (Opened c) lines now
    (λ none. (none, not_come (has_come past c) c (λ h. subst (λ (n : ℕ). c < n) (sym step.number) (agrees.came c h)))) step.moved.none (step.moved.said_is ∙ agrees.said)
    (λ d. step.moved.who_is d ∙ ap (λ (before : Option Identity). if c == d then None else before) (agrees.who d))
done_good players past old (Closed c) lines tells now agrees step =
    none_done players past (Closed c) lines now (λ none. none) step.moved.none (step.moved.said_is ∙ agrees.said)
    (λ d. step.moved.who_is d ∙ ap (λ (before : Option Identity). if c == d then None else before) (agrees.who d))
done_good players past old (Hurried c) lines tells now agrees step =
    none_done players past (Hurried c) lines now (λ none. none) step.none (step.said_is ∙ agrees.said)
    (λ d. step.who_is d ∙ agrees.who d)
done_good players past old (Said c text at) lines tells now agrees step =
    let list = players_in players past in
    let good = said_good list old c text lines tells now step.0 in
    let agreed = said_accord players past old c text at lines tells now agrees step.0 step.1 in
    let own = subst (λ (who : Option Identity). ActsRight (name_for list (is_agreement step.0.standing.accord) who text) old.said lines) (agrees.who c) good.acts in
    let may = subst (λ (b : Bool). ActsRight (name_for list b (player_in players past c) text) old.said lines) agreed own in
    record {
      who = λ d. said_who list old c text lines tells now at step.0 d ∙ ap (λ (before : Option Identity). player_after list (Said c text at) d before) (agrees.who d);
      said = good.name ∙ ap (λ (n : Option (List ℕ)). name_through n lines) agrees.said;
      right = (
        subst (λ (n : Option (List ℕ)). ActsRight (name_for list (agreement_in players past c text at) (player_in players past c) text) n lines) agrees.said may,
        good.drops,
        good.of_text,
      );
      whole = good.whole;
    }
done_good players past old (Heard line) lines tells now agrees step =
    let good = heard_good players past old line lines now agrees step in
    record { who = λ d. step.who_is d ∙ agrees.who d; said = good.said; right = good.right; whole = good.whole }
done_good players past old (Renewed later) lines tells now agrees step =
    none_done players past (Renewed later) lines now (λ none. none) step.none (step.said_is ∙ agrees.said)
    (λ d. renewed_who players past old later lines now agrees step d)
done_good players past old (Linked c text later token) lines tells now agrees step =
    let orders = linked_orders (players_in players past) old c text later token step.1 in
    none_done players past (Linked c text later token) lines now
    (λ none. (none, subst IsArbiter (step.1.who ∙ agrees.who c) orders.arbiter, orders.message, orders.sort_is, step.1.changes))
    step.0.none (step.0.said_is ∙ agrees.said)
    (λ d. renewed_who players past old later lines now agrees step.0 d)
done_good players past old (ServerTurned is_here) lines tells now agrees step =
    none_done players past (ServerTurned is_here) lines now (λ none. none) step.none step.said_is (λ d. step.who_is d ∙ agrees.who d)
done_good players past old (Found finding) lines tells now agrees step =
    none_done players past (Found finding) lines now (λ none. none) step.none (step.said_is ∙ agrees.said)
    (λ d. step.who_is d ∙ agrees.who d)

-- each drop that waits then was asked for
asked_then : (players : List Player) (past : List Step) (old : View) (event : DeskInput) (lines : List (List ℕ)) (tells : List MessageValue) (now : View) →
    Agrees players past old → IsDone (players_in players past) old event lines tells now →
    AreAsked players (record { event = event; lines = lines; tells = tells } ∷ past) (owed_now event (speaker old.who event) lines old.known)
asked_then players past old (Opened c) lines tells now agrees step = are_asked_later players (record { event = Opened c; lines = lines; tells = tells }) past old.known.owed agrees.asked
asked_then players past old (Closed c) lines tells now agrees step = are_asked_later players (record { event = Closed c; lines = lines; tells = tells }) past old.known.owed agrees.asked
asked_then players past old (Hurried c) lines tells now agrees step = are_asked_later players (record { event = Hurried c; lines = lines; tells = tells }) past old.known.owed agrees.asked
asked_then players past old (Said c text at) lines tells now agrees step =
    let list = players_in players past in
    let now_said : Step = record { event = Said c text at; lines = lines; tells = tells } in
    let asks = subst (λ (who : Option Identity). AsksDrop (is_drop text) lines who (is_message text)) (agrees.who c) (said_asks list old c text lines tells now step.0) in
    let by_plan = subst (λ (who : Option Identity). AsksPair (is_pairing text) lines (is_agreement step.0.standing.accord) who (is_message text) (known_name list (black_name text)) (black_name text))
    (agrees.who c) (said_pairs list old c text lines tells now step.0) in
    let pairs = subst (λ (b : Bool). AsksPair (is_pairing text) lines b (player_in players past c) (is_message text) (known_name list (black_name text)) (black_name text))
    (said_accord players past old c text at lines tells now agrees step.0 step.1) by_plan in
    are_asked_both players (now_said ∷ past) old.known.owed (owed_lines (asker c (name_of (old.who c)) text) lines)
    (are_asked_later players now_said past old.known.owed agrees.asked)
    (asker_asked players past c (name_of (old.who c)) text at lines lines tells asks pairs)
asked_then players past old (Heard line) lines tells now agrees step =
    asked_heard players (record { event = Heard line; lines = lines; tells = tells } ∷ past) old.known.owed (answer old.known.begun line) lines
    (are_asked_later players (record { event = Heard line; lines = lines; tells = tells }) past old.known.owed agrees.asked)
    (is_counted old.known line)
asked_then players past old (Renewed later) lines tells now agrees step = are_asked_later players (record { event = Renewed later; lines = lines; tells = tells }) past old.known.owed agrees.asked
asked_then players past old (Linked c text later token) lines tells now agrees step = are_asked_later players (record { event = Linked c text later token; lines = lines; tells = tells }) past old.known.owed agrees.asked
asked_then players past old (ServerTurned is_here) lines tells now agrees step = tt
asked_then players past old (Found finding) lines tells now agrees step = are_asked_later players (record { event = Found finding; lines = lines; tells = tells }) past old.known.owed agrees.asked

begins_known : (players : List Player) (at_first : Halted) (now : View) → BeginsView at_first now → now.known ≡ known_in players []
begins_known players at_first now begins =
    same_known now.known (known_in players []) begins.owed begins.left begins.begun begins.last begins.watches begins.table begins.seats begins.pairings begins.refused begins.follows begins.misnamed

pub record RunGood (players : List Player) (steps : List Step) (now : View) : Type 0 where
  pub agrees : Agrees players steps now
  pub right : AllRight players steps
  pub told : AllTold players steps

pub run_good : (players : List Player) (at_first : Halted) (steps : List Step) (now : View) → IsRun players at_first steps now →
    RunGood players steps now
run_good players at_first [] now run = record {
  agrees = record { who = run.who; said = run.said; opens = run.none_open; known = begins_known players at_first now run; offers = run.offers; asked = subst (AreAsked players []) (sym run.owed) tt; came = λ c h. absurd (false≢true h) };
  right = tt;
  told = tt;
}
run_good players at_first (s ∷ past) now run =
    let before = run_good players at_first past run.0 run.1 in
    let step = run.2 in
    let good = done_good players past run.0 s.event s.lines s.tells now before.agrees step.done in
    record {
      agrees = record {
        who = good.who;
        said = good.said;
        opens = λ c. step.opens c ∙ ap (open_now s.event c) (before.agrees.opens c);
        known = known_then s.event (speaker run.0.who s.event) s.lines (acting now.who) (acting (player_in players (s ∷ past)))
            (λ c. ap is_some (good.who c)) run.0.known now.known (known_in players past) step.known before.agrees.known
            ∙ ap (λ (by : List ℕ). known_now s.event by s.lines (acting (player_in players (s ∷ past))) (known_in players past))
            (speaker_alike run.0.who (player_in players past) before.agrees.who s.event);
        offers = offers_then players past s.event run.0 now before.agrees step.offers;
        asked = subst (AreAsked players (s ∷ past)) (sym step.known.owed) (asked_then players past run.0 s.event s.lines s.tells now before.agrees step.done);
        came = came_then players past run.0 s.event s.lines s.tells now before.agrees step.done;
      };
      right = (good.right, good.whole, before.right);
      told = (
        told_alike s.event s.lines s.tells run.0.is_open (open_in past) before.agrees.opens run.0.who (player_in players past) before.agrees.who (known_in players past)
            (subst (λ (k : Known). IsTold s.event s.lines s.tells run.0.is_open run.0.who k) before.agrees.known step.told),
        before.told,
      );
    }
