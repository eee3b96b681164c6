-- The answer to an act counts only under the name that the server's answers show.
use Rattle.std.proofs.Common.{ℕ, ◌≡◌, inl, inr, Bool, true, false, ◌&&◌, ◌||◌, not, List, [], ◌∷◌, ◌++◌, Option, None, Some, codes, decimal, refl, sym, ap, ◌∙◌, subst, append-nil}
use Rattle.std.specs.Prelude.{if◌then◌else◌, is_some}
use Rattle.std.specs.List.{list_any}
use Rattle.std.specs.Str.{bytes_eq}
use Rattle.std.proofs.lemmas.Bool.{false≢true, and_parts}
use Rattle.lobby_words.specs.declared.words.Sort.{Sort}
use Rattle.lobby_words.specs.declared.planning.Change.TheVariants as changes
use Rattle.lobby_words.specs.declared.words.Sort.TheVariants as sorts
use Rattle.lobby_words.specs.declared.refusals.Refusal.{Refusal}
use Rattle.lobby_words.specs.declared.refusals.Refusal.TheVariants as refusals
use Rattle.lobby_words.specs.declared.planning.Plan.{Plan}
use Rattle.lobby_words.specs.declared.planning.Plan.TheVariants as plans
use Rattle.lobby_words.specs.declared.planning.Standing.{Standing}
use Rattle.lobby_words.specs.declared.planning.Identity.{Identity}
use Rattle.lobby_words.specs.declared.players.Player.{Player}
use Rattle.lobby_words.specs.Players.{known_name}
use Rattle.lobby_words.specs.Words.{rest_of, as_name, as_line, black_name, pair_line, line_said, actor, is_message, sort_of, is_act_sort, is_pair_sort, is_drop_sort, is_name_sort, is_login_sort, is_act_word, is_play_word, is_digit, are_digits, is_show_word, is_read, u32_in, or_0}
use Rattle.lobby_words.specs.Naming.{takes_name}
use Rattle.lobby_words.specs.declared.planning.Accord.{Accord}
use Rattle.lobby_words.specs.declared.planning.Accord.TheVariants as accords
use Rattle.lobby_words.specs.Plans.{barred, entered_plan, act_plan, named_plan, as_plan, black_plan, white_plan, offered_plan, pair_plan, numbered_plan, sort_plan, who_plan, plan_of}
use Rattle.lobby_words.specs.Answers.{is_whole, act_game, answer}
use Rattle.lobby_desk.specs.Lines.{lines_of, is_said}
use Rattle.lobby_table.specs.Sending.{act_lines, join_line, name_line, game_line, notice_lines}
use Rattle.lobby_table.specs.Refusals.{game_named}
use Rattle.lobby_desk.specs.Events.{DeskInput, Opened, Closed, Said, Hurried, Heard, ServerTurned, Renewed, Linked, Found}
use Rattle.lobby_desk.specs.Events.{MessageValue, sort_asker, asker, followers_of, follower, asked_after}
use Rattle.lobby_table.specs.Owed.{ForItself, ForPositions, ForTable, ForGame, ForAct, Owed, Nobody, Naming, Asker}
use Rattle.lobby_table.specs.Owed.{Dropper, Pairer, Followers, Behind, owed_lines}
use Rattle.lobby_desk.specs.Tellings.{Known, is_counted, misnamed_heard, misnamed_next, owed_answered}
use Rattle.lobby_desk.specs.Who.{View, IsSaid, IsSentFor, IsSentNext, IsSentHeard, IsDone, IsDropped, IsPaired, name_of}
use Rattle.lobby_players.specs.Halts.{Halted}
use Rattle.lobby_desk.specs.History.{Step, player_in, players_in, says_name, is_act, is_drop, is_pairing, name_behind, name_through, name_in, known_in, HasAsked, PairsNow, HasPaired, IsRun, Sent, sent_under, but_first, unanswered_in, shown_behind, shown_next, shown_in, IsLineIf, IsLineOf, IsNameIf, IsNameOf, IsOfAct, IsOfOwed, IsOfNext, IsOfHeard, IsOfName, AllNamed}
use Rattle.lobby_table.proofs.Sent.{is_said_same}
use Rattle.lobby_desk.proofs.Lines.{join_line_acts, list_reads, name_names}
use Rattle.lobby_desk.proofs.As.{as_acts, as_word, plain_word, pair_acts}
use Rattle.lobby_desk.proofs.Carry.{asked_does, entered_does, dropped_does, room_does, arbiter_does, barred_does, link_does, join_does, login_does, stranger_does, watch_does, line_does}
use Rattle.lobby_desk.proofs.Runs.{AreAsked, IsAsked, Agrees, was_asked, run_good}

-- ---- each line that waits, and for whom its answer is

abbrev pub Fits : Owed → Sent → Type 0
Fits (Naming name) s = s.line ≡ name_line name
Fits (Asker c (ForAct by text)) s =
    (is_act s.line ≡ true) × IsLineOf text s.line × ((name : List ℕ) × (s.under ≡ Some name) × IsNameOf by text name)
Fits (Pairer c by black text) s =
    (is_act s.line ≡ true) × (s.line ≡ pair_line text) × ((name : List ℕ) × (s.under ≡ Some name) × (name ≡ as_name text))
Fits _ s = says_name s.line ≡ false

abbrev pub AreFor : List Owed → List Sent → Type 0
AreFor [] [] = Unit {0}
AreFor [] (s ∷ sent) = ⊥
AreFor (o ∷ owed) [] = ⊥
AreFor (o ∷ owed) (s ∷ sent) = Fits o s × AreFor owed sent

for_both : (a b : List Owed) (x y : List Sent) → AreFor a x → AreFor b y → AreFor (a ++ b) (x ++ y)
for_both [] b [] y h k = k
for_both [] b (s ∷ x) y h k = absurd h
for_both (o ∷ a) b [] y h k = absurd h
for_both (o ∷ a) b (s ∷ x) y h k = (h.0, for_both a b x y h.1 k)

-- The name under which each went is the one that holds when the server takes it, if it takes each name before it.
abbrev pub Follow : Option (List ℕ) → List Sent → Option (List ℕ) → Type 0
Follow shown [] said = shown ≡ said
Follow shown (s ∷ sent) said = (s.under ≡ shown) × Follow (name_behind shown s.line) sent said

follow_all : (said : Option (List ℕ)) (lines : List (List ℕ)) → Follow said (sent_under said lines) (name_through said lines)
follow_all said [] = refl
follow_all said (line ∷ lines) = (refl, follow_all (name_behind said line) lines)

follow_more : (shown said : Option (List ℕ)) (sent : List Sent) (lines : List (List ℕ)) → Follow shown sent said →
    Follow shown (sent ++ sent_under said lines) (name_through said lines)
follow_more shown said [] lines h =
    subst (λ (n : Option (List ℕ)). Follow n (sent_under said lines) (name_through said lines)) (sym h) (follow_all said lines)
follow_more shown said (s ∷ sent) lines h = (h.0, follow_more (name_behind shown s.line) said sent lines h.1)

-- both, of what waits
abbrev pub Waits : List Owed → List Sent → Option (List ℕ) → Option (List ℕ) → Type 0
Waits owed sent shown said = AreFor owed sent × Follow shown sent said

waits_more : (owed new : List Owed) (sent : List Sent) (shown said : Option (List ℕ)) (lines : List (List ℕ)) →
    AreFor new (sent_under said lines) → Waits owed sent shown said →
    Waits (owed ++ new) (sent ++ sent_under said lines) shown (name_through said lines)
waits_more owed new sent shown said lines fits h =
    (for_both owed new sent (sent_under said lines) h.0 fits, follow_more shown said sent lines h.1)

waits_still : (owed : List Owed) (sent : List Sent) (shown said : Option (List ℕ)) (lines : List (List ℕ)) → lines ≡ [] →
    Waits owed sent shown said → Waits owed (sent ++ sent_under said lines) shown (name_through said lines)
waits_still owed sent shown said lines none h =
    subst (λ (os : List Owed). Waits os (sent ++ sent_under said lines) shown (name_through said lines)) (append-nil owed)
    (waits_more owed [] sent shown said lines (subst (λ (ls : List (List ℕ)). AreFor [] (sent_under said ls)) (sym none) tt) h)

-- ---- the lines of a plan

no_name : (line : List ℕ) → sort_of line ≡ sorts.Read → says_name line ≡ false
no_name line is = ap is_name_sort is

-- a question about a game is one, or nothing that is known
asked_silent : (d : Bool) → is_name_sort (if d || false then sorts.Read else sorts.Nothing) ≡ false
asked_silent true = refl
asked_silent false = refl

show_silent : (n : ℕ) → says_name (game_line (codes "show ") n) ≡ false
unfolding sort_of is_read is_show_word is_act_word is_play_word
show_silent n = asked_silent (are_digits (decimal n))

fen_silent : (n : ℕ) → says_name (game_line (codes "fen ") n) ≡ false
unfolding sort_of is_read is_show_word is_act_word is_play_word
fen_silent n = asked_silent (are_digits (decimal n))

pgn_silent : (n : ℕ) → says_name (game_line (codes "pgn ") n) ≡ false
unfolding sort_of is_read is_show_word is_act_word is_play_word
pgn_silent n = asked_silent (are_digits (decimal n))

act_no_name : (sort : Sort) → is_act_sort sort ≡ true → is_name_sort sort ≡ false
act_no_name sorts.Name h = absurd (false≢true h)
act_no_name _ h = refl

drop_acts : (sort : Sort) → is_drop_sort sort ≡ true → is_act_sort sort ≡ true
drop_acts sorts.Drop h = refl
drop_acts _ h = absurd (false≢true h)

named_first : (said : Option (List ℕ)) (name : List ℕ) → name_behind said (name_line name) ≡ Some name
named_first said name = ap (λ (k : Sort). if is_name_sort k then Some name else said) (name_names name)

-- an act, and what is asked behind it
acts_fit : (c : ℕ) (by text name line : List ℕ) (game : Option ℕ) (said : Option (List ℕ)) → is_act line ≡ true → IsLineOf text line →
    IsNameOf by text name → (b : Bool) → (b ≡ true → said ≡ Some name) →
    AreFor (owed_lines (Asker c (ForAct by text)) (if b then line ∷ notice_lines game else name_line name ∷ line ∷ notice_lines game))
    (sent_under said (if b then line ∷ notice_lines game else name_line name ∷ line ∷ notice_lines game))
acts_fit c by text name line None said act of_text named true same = ((act, of_text, (name, same refl, named)), tt)
acts_fit c by text name line (Some game) said act of_text named true same = (
  (act, of_text, (name, same refl, named)),
  (
    show_silent game,
    (fen_silent game, tt),
  ),
)
acts_fit c by text name line None said act of_text named false same =
    (refl, ((act, of_text, (name, named_first said name, named)), tt))
acts_fit c by text name line (Some game) said act of_text named false same = (
  refl,
  (
    (act, of_text, (name, named_first said name, named)),
    (
      show_silent game,
      (fen_silent game, tt),
    ),
  ),
)

act_fits : (c : ℕ) (by text name line : List ℕ) (said : Option (List ℕ)) → is_act line ≡ true → IsLineOf text line → IsNameOf by text name →
    AreFor (owed_lines (Asker c (ForAct by text)) (act_lines said name line (game_named text))) (sent_under said (act_lines said name line (game_named text)))
act_fits c by text name line said act of_text named =
    acts_fit c by text name line (game_named text) said act of_text named (is_said said name) (is_said_same said name)

-- how a message is read that is itself an act
plain_line : (text : List ℕ) → is_act text ≡ true → text ≡ line_said text
plain_line text acts = ap (λ (b : Bool). if b then as_line text else text) (sym (plain_word text acts))

plain_actor : (by text : List ℕ) → is_act text ≡ true → by ≡ actor by text
plain_actor by text acts = ap (λ (b : Bool). if b then as_name text else by) (sym (plain_word text acts))

as_said : (text : List ℕ) → sort_of text ≡ sorts.As → as_line text ≡ line_said text
as_said text is = ap (λ (b : Bool). if b then as_line text else text) (sym (as_word text is))

as_actor : (by text : List ℕ) → sort_of text ≡ sorts.As → as_name text ≡ actor by text
as_actor by text is = ap (λ (b : Bool). if b then as_name text else by) (sym (as_word text is))

-- of a message that is no pairing
plain_is : (text line : List ℕ) → is_pairing text ≡ false → line ≡ line_said text → IsLineOf text line
plain_is text line other h = subst (λ (b : Bool). IsLineIf b text line) (sym other) h

plain_named : (by text name : List ℕ) → is_pairing text ≡ false → (is_drop text ≡ false → name ≡ actor by text) → IsNameOf by text name
plain_named by text name other h = subst (λ (b : Bool). IsNameIf b by text name) (sym other) h

-- the line that opens the game of a pairing, and the one that joins it
opens_fit : (c : ℕ) (by black text white : List ℕ) (said : Option (List ℕ)) → white ≡ as_name text → (b : Bool) → (b ≡ true → said ≡ Some white) →
    AreFor (owed_lines (Pairer c by black text) (if b then pair_line text ∷ [] else name_line white ∷ pair_line text ∷ []))
    (sent_under said (if b then pair_line text ∷ [] else name_line white ∷ pair_line text ∷ []))
opens_fit c by black text white said named true same = ((ap is_act_sort (pair_acts text), refl, (white, same refl, named)), tt)
opens_fit c by black text white said named false same =
    (refl, ((ap is_act_sort (pair_acts text), refl, (white, named_first said white, named)), tt))

joins_fit : (c : ℕ) (by text black : List ℕ) (game : ℕ) (said : Option (List ℕ)) → is_pairing text ≡ true → black ≡ black_name text →
    AreFor (owed_lines (Asker c (ForAct by text)) (act_lines said black (join_line game) None)) (sent_under said (act_lines said black (join_line game) None))
joins_fit c by text black game said pairs named =
    acts_fit c by text black (join_line game) None said (ap is_act_sort (join_line_acts game))
    (subst (λ (b : Bool). IsLineIf b text (join_line game)) (sym pairs) (game, refl))
    (subst (λ (b : Bool). IsNameIf b by text black) (sym pairs) named) (is_said said black) (is_said_same said black)

abbrev FitsPlan : Option (List ℕ) → List ℕ → Owed → Plan → Type 0
FitsPlan said text o plan = AreFor (owed_lines o (lines_of plan said text)) (sent_under said (lines_of plan said text))

own_fits : (s : Standing) (who : Identity) (said : Option (List ℕ)) (text : List ℕ) (c : ℕ) → sort_of text ≡ sorts.Act →
    FitsPlan said text (Asker c (ForAct who.name text)) (act_plan s who)
own_fits s who said text c is =
    let o = Asker c (ForAct who.name text) in
    let acts : is_act text ≡ true = ap is_act_sort is in
    elim (s.is_paused && not who.is_arbiter) as (λ b. FitsPlan said text (Asker c (ForAct who.name text)) (if b then plans.Refuse refusals.EntriesPaused else entered_plan s (plans.Act who))) [
      | true ↦ tt
      | false ↦ entered_does (FitsPlan said text (Asker c (ForAct who.name text))) s (plans.Act who) (λ _. tt)
          (act_fits c who.name text who.name text said acts (plain_is text text (ap is_pair_sort is) (plain_line text acts))
          (plain_named who.name text who.name (ap is_pair_sort is) (λ _. plain_actor who.name text acts)))
    ]

abbrev or_this : List ℕ → Option (List ℕ) → List ℕ
or_this one None = one
or_this one (Some other) = other

found_name : (b : Bool) (name found : List ℕ) → (if b then Some name else None) ≡ Some found → found ≡ name
found_name true name found h = sym (ap (or_this name) h)
found_name false name found h = absurd (false≢true (ap is_some h))

known_is : (players : List Player) (name found : List ℕ) → known_name players name ≡ Some found → found ≡ name
known_is players name found h = found_name (list_any (λ (player : Player). bytes_eq player.name name) players) name found h

named_fits : (players : List Player) (s : Standing) (who : Identity) (named : Option (List ℕ)) (said : Option (List ℕ)) (text : List ℕ) (c : ℕ) →
    sort_of text ≡ sorts.As → known_name players (as_name text) ≡ named →
    FitsPlan said text (Asker c (ForAct who.name text)) (named_plan s who named)
named_fits players s who None said text c is other = tt
named_fits players s who (Some name) said text c is other =
    entered_does (FitsPlan said text (Asker c (ForAct who.name text))) s (plans.ActAs who name) (λ _. tt)
    (act_fits c who.name text name (as_line text) said (ap is_act_sort (as_acts text is)) (plain_is text (as_line text) (ap is_pair_sort is) (as_said text is))
    (plain_named who.name text name (ap is_pair_sort is) (λ _. known_is players (as_name text) name other ∙ as_actor who.name text is)))

as_fits : (players : List Player) (s : Standing) (who : Identity) (said : Option (List ℕ)) (text : List ℕ) (c : ℕ) →
    sort_of text ≡ sorts.As → s.named ≡ known_name players (as_name text) →
    FitsPlan said text (Asker c (ForAct who.name text)) (as_plan s who)
as_fits players s who said text c is other =
    elim who.is_arbiter as (λ b. FitsPlan said text (Asker c (ForAct who.name text)) (if b then named_plan s who s.named else plans.Refuse refusals.NotArbiter)) [
      | true ↦ named_fits players s who s.named said text c is (sym other)
      | false ↦ tt
    ]

black_fits : (players : List Player) (s : Standing) (who : Identity) (white : List ℕ) (black said : Option (List ℕ)) (text : List ℕ) (c : ℕ) →
    white ≡ as_name text → FitsPlan said text (Pairer c who.name (black_name text) text) (black_plan s who white black)
black_fits players s who white None said text c named = tt
black_fits players s who white (Some black) said text c named =
    asked_does (FitsPlan said text (Pairer c who.name (black_name text) text)) s (plans.Pair who white black) tt
    (opens_fit c who.name (black_name text) text white said named (is_said said white) (is_said_same said white))

white_fits : (players : List Player) (s : Standing) (who : Identity) (white said : Option (List ℕ)) (text : List ℕ) (c : ℕ) →
    known_name players (as_name text) ≡ white → FitsPlan said text (Pairer c who.name (black_name text) text) (white_plan s who white)
white_fits players s who None said text c other = tt
white_fits players s who (Some white) said text c other = black_fits players s who white s.black said text c (known_is players (as_name text) white other)

barred_fits : (bar : Option Refusal) (said : Option (List ℕ)) (text : List ℕ) (o : Owed) (plan : Plan) → FitsPlan said text o plan →
    FitsPlan said text o (barred bar plan)
barred_fits None said text o plan h = h
barred_fits (Some refusal) said text o plan h = tt

offered_fits : (players : List Player) (s : Standing) (who : Identity) (accord : Accord) (said : Option (List ℕ)) (text : List ℕ) (c : ℕ) →
    s.named ≡ known_name players (as_name text) → FitsPlan said text (Pairer c who.name (black_name text) text) (offered_plan s who accord)
offered_fits players s who accords.Nothing said text c other = tt
offered_fits players s who accords.Offered said text c other = tt
offered_fits players s who accords.Agreed said text c other =
    elim s.is_paused as (λ b. FitsPlan said text (Pairer c who.name (black_name text) text) (if b then plans.Refuse refusals.EntriesPaused else barred s.pair_bar (white_plan s who s.named))) [
      | true ↦ tt
      | false ↦ barred_fits s.pair_bar said text (Pairer c who.name (black_name text) text) (white_plan s who s.named)
          (white_fits players s who s.named said text c (sym other))
    ]

pair_fits : (players : List Player) (s : Standing) (who : Identity) (said : Option (List ℕ)) (text : List ℕ) (c : ℕ) →
    s.named ≡ known_name players (as_name text) → FitsPlan said text (Pairer c who.name (black_name text) text) (pair_plan s who)
pair_fits players s who said text c other =
    elim who.is_arbiter as (λ b. FitsPlan said text (Pairer c who.name (black_name text) text) (if b then white_plan s who s.named else offered_plan s who s.accord)) [
      | true ↦ white_fits players s who s.named said text c (sym other)
      | false ↦ offered_fits players s who s.accord said text c other
    ]

leave_fits : (s : Standing) (who : Identity) (game : Option ℕ) (said : Option (List ℕ)) (text : List ℕ) (o : Owed) →
    FitsPlan said text o (numbered_plan sorts.Leave s who game)
leave_fits s who None said text o = tt
leave_fits s who (Some game) said text o = tt

sorted_fits : (players : List Player) (sort : Sort) (s : Standing) (who : Identity) (game : Option ℕ) (said : Option (List ℕ)) (text : List ℕ) (c : ℕ) →
    sort_of text ≡ sort → s.named ≡ known_name players (as_name text) →
    FitsPlan said text (sort_asker sort game c who.name text) (sort_plan sort s who game)
sorted_fits players sorts.Read s who game said text c is other =
    asked_does (FitsPlan said text (Asker c ForItself)) s plans.Read tt (no_name text is, tt)
sorted_fits players sorts.Act s who game said text c is other = own_fits s who said text c is
sorted_fits players sorts.As s who game said text c is other = as_fits players s who said text c is other
sorted_fits players sorts.Pair s who game said text c is other = pair_fits players s who said text c other
sorted_fits players sorts.Unpair s who game said text c is other = tt
sorted_fits players sorts.Offers s who game said text c is other = tt
sorted_fits players sorts.Drop s who game said text c is other =
    dropped_does (FitsPlan said text (Dropper c who.name text)) s who game (λ _. tt)
    (λ g. (show_silent g, tt))
sorted_fits players sorts.Login s who game said text c is other = login_does (FitsPlan said text (Asker c ForItself)) s.holder (λ _. tt) (λ _. tt)
sorted_fits players sorts.Players s who game said text c is other = tt
sorted_fits players sorts.Who s who game said text c is other = tt
sorted_fits players sorts.Pause s who game said text c is other = arbiter_does (FitsPlan said text (Asker c ForItself)) who plans.Pause (λ _. tt) tt
sorted_fits players sorts.Resume s who game said text c is other = arbiter_does (FitsPlan said text (Asker c ForItself)) who plans.Resume (λ _. tt) tt
sorted_fits players (sorts.Call call) s who game said text c is other =
    arbiter_does (FitsPlan said text (Asker c ForItself)) who (barred s.bar (plans.Call call)) (λ _. tt)
    (barred_does (FitsPlan said text (Asker c ForItself)) s.bar (plans.Call call) (λ _. tt) tt)
sorted_fits players sorts.Link s who game said text c is other =
    link_does (FitsPlan said text (Asker c ForItself)) who changes.NewLink s.linked (λ _. tt) (λ _. tt)
sorted_fits players sorts.Close s who game said text c is other =
    link_does (FitsPlan said text (Asker c ForItself)) who changes.NoLink s.linked (λ _. tt) (λ _. tt)
sorted_fits players sorts.Player s who game said text c is other =
    join_does (FitsPlan said text (Asker c ForItself)) who s.newcomer (λ _. tt) (λ _. tt) (λ _. tt)
sorted_fits players sorts.Lobby s who game said text c is other =
    asked_does (FitsPlan said text (Asker c ForTable)) s plans.Lobby tt (no_name (codes "list") list_reads, tt)
sorted_fits players sorts.LeaveLobby s who game said text c is other = tt
sorted_fits players sorts.Watch s who game said text c is other =
    watch_does (FitsPlan said text (Asker c (ForGame (or_0 game)))) s who game (λ _. tt)
    (λ g. (show_silent g, (fen_silent g, tt)))
sorted_fits players sorts.Leave s who game said text c is other = leave_fits s who game said text (Asker c ForItself)
sorted_fits players sorts.Line s who game said text c is other =
    line_does (FitsPlan said text (Asker c ForPositions)) s who game (λ _. tt) (λ g. (pgn_silent g, tt))
sorted_fits players sorts.Room s who game said text c is other =
    room_does (FitsPlan said text (Asker c ForItself)) s who game (λ _. tt) (λ _. tt)
sorted_fits players sorts.Moves s who game said text c is other = tt
sorted_fits players sorts.Name s who game said text c is other = tt
sorted_fits players sorts.Nothing s who game said text c is other = tt

who_fits : (players : List Player) (who : Option Identity) (sort : Sort) (s : Standing) (game : Option ℕ) (said : Option (List ℕ)) (text : List ℕ) (c : ℕ) →
    sort_of text ≡ sort → s.named ≡ known_name players (as_name text) →
    FitsPlan said text (sort_asker sort game c (name_of who) text) (who_plan who sort s game)
who_fits players None sort s game said text c is other =
    stranger_does (FitsPlan said text (sort_asker sort game c (name_of None) text)) (is_login_sort sort) s (λ _. tt) (λ _. tt)
who_fits players (Some who) sort s game said text c is other = sorted_fits players sort s who game said text c is other

planned_fits : (players : List Player) (m : Bool) (sort : Sort) (s : Standing) (game : Option ℕ) (said : Option (List ℕ)) (text : List ℕ) (c : ℕ) →
    sort_of text ≡ sort → s.named ≡ known_name players (as_name text) →
    FitsPlan said text (sort_asker sort game c (name_of s.who) text) (plan_of m sort s game)
planned_fits players false sort s game said text c is other = tt
planned_fits players true sort s game said text c is other = who_fits players s.who sort s game said text c is other

-- a message
said_fits : (players : List Player) (old : View) (c : ℕ) (text : List ℕ) (lines : List (List ℕ)) (tells : List MessageValue) (new : View) →
    IsSaid players old c text lines tells new →
    AreFor (owed_lines (asker c (name_of (old.who c)) text) lines) (sent_under old.said lines)
said_fits players old c text lines tells new h =
    let planned = planned_fits players (is_message text) (sort_of text) h.standing (u32_in (rest_of text)) old.said text c refl h.other in
    let by_plan = subst (λ (plan : Plan). FitsPlan old.said text (asker c (name_of h.standing.who) text) plan) (sym h.planned) planned in
    let lined = subst (λ (ls : List (List ℕ)). AreFor (owed_lines (asker c (name_of h.standing.who) text) ls) (sent_under old.said ls)) (sym h.lines_are) by_plan in
    subst (λ (who : Option Identity). AreFor (owed_lines (asker c (name_of who) text) lines) (sent_under old.said lines)) h.who lined

-- ---- an answer

-- what goes out for it
none_fits : (o : Owed) (said : Option (List ℕ)) (lines : List (List ℕ)) → lines ≡ [] → AreFor (owed_lines o lines) (sent_under said lines)
none_fits o said lines none = subst (λ (ls : List (List ℕ)). AreFor (owed_lines o ls) (sent_under said ls)) (sym none) tt

notice_fits : (game : Option ℕ) (by text now : List ℕ) (said : Option (List ℕ)) →
    AreFor (owed_lines (followers_of game by text now) (notice_lines game)) (sent_under said (notice_lines game))
notice_fits None by text now said = tt
notice_fits (Some game) by text now said =
    (show_silent game, (fen_silent game, tt))

drop_no_pair : (sort : Sort) → is_drop_sort sort ≡ true → is_pair_sort sort ≡ false
drop_no_pair sorts.Drop h = refl
drop_no_pair _ h = absurd (false≢true h)

dropped_fits : {who : Option Identity} (players : List Player) (past : List Step) (c : ℕ) (by text now : List ℕ) (said : Option (List ℕ)) (lines : List (List ℕ)) (later : Option (List ℕ)) →
    HasAsked players past c text → IsDropped who said now text lines later →
    AreFor (owed_lines (Asker c (ForAct by text)) lines) (sent_under said lines)
dropped_fits players past c by text now said lines later asked h =
    let was = was_asked players past c text asked in
    let acts : is_act text ≡ true = drop_acts (sort_of text) was.drop in
    subst (λ (ls : List (List ℕ)). AreFor (owed_lines (Asker c (ForAct by text)) ls) (sent_under said ls)) (sym h.lines_are)
    (act_fits c by text h.name text said acts (plain_is text text (drop_no_pair (sort_of text) was.drop) (plain_line text acts))
    (plain_named by text h.name (drop_no_pair (sort_of text) was.drop) (λ no. absurd (false≢true (sym no ∙ was.drop)))))

-- a message that asks for a pairing, as it was said
pub record WasPaired (black text : List ℕ) : Type 0 where
  pub pairs : is_pairing text ≡ true
  pub named : black ≡ black_name text

paired_now : (players : List Player) (past : List Step) (event : DeskInput) (c : ℕ) (black text : List ℕ) → PairsNow players past event c black text → WasPaired black text
paired_now players past (Opened d) c black text h = absurd h
paired_now players past (Closed d) c black text h = absurd h
paired_now players past (Said d said at) c black text h =
    record { pairs = h.4; named = known_is (players_in players past) (black_name text) black h.5 }
paired_now players past (Hurried d) c black text h = absurd h
paired_now players past (Heard line) c black text h = absurd h
paired_now players past (Renewed later) c black text h = absurd h
paired_now players past (Linked d said later token) c black text h = absurd h
paired_now players past (ServerTurned is_here) c black text h = absurd h
paired_now players past (Found finding) c black text h = absurd h

was_paired : (players : List Player) (past : List Step) (c : ℕ) (black text : List ℕ) → HasPaired players past c black text → WasPaired black text
was_paired players [] c black text h = absurd h
was_paired players (s ∷ past) c black text h =
    elim h [ inl now ↦ paired_now players past s.event c black text now | inr before ↦ was_paired players past c black text before ]

paired_fits : (players : List Player) (past : List Step) (c : ℕ) (by black text : List ℕ) (game : Option ℕ) (said : Option (List ℕ)) (lines : List (List ℕ))
    (later : Option (List ℕ)) → HasPaired players past c black text → IsPaired game said black lines later →
    AreFor (owed_lines (Asker c (ForAct by text)) lines) (sent_under said lines)
paired_fits players past c by black text None said lines later paired h = none_fits (Asker c (ForAct by text)) said lines h.0
paired_fits players past c by black text (Some game) said lines later paired h =
    let was = was_paired players past c black text paired in
    subst (λ (ls : List (List ℕ)). AreFor (owed_lines (Asker c (ForAct by text)) ls) (sent_under said ls)) (sym h.0)
    (joins_fit c by text black game said was.pairs was.named)

sent_fits : (who : ℕ → Option Identity) (players : List Player) (past : List Step) (o : Owed) (said : Option (List ℕ)) (now : List ℕ) (lines : List (List ℕ)) (later : Option (List ℕ)) →
    IsAsked players past o → IsSentFor who o said now lines later → AreFor (owed_lines (follower o now) lines) (sent_under said lines)
sent_fits who players past Nobody said now lines later asked h = none_fits Nobody said lines h.0
sent_fits who players past (Naming name) said now lines later asked h = none_fits Nobody said lines h.0
sent_fits who players past (Asker c ForItself) said now lines later asked h = none_fits Nobody said lines h.0
sent_fits who players past (Asker c ForPositions) said now lines later asked h = none_fits Nobody said lines h.0
sent_fits who players past (Asker c ForTable) said now lines later asked h = none_fits Nobody said lines h.0
sent_fits who players past (Asker c (ForGame game)) said now lines later asked h = none_fits Nobody said lines h.0
sent_fits who players past (Asker c (ForAct by text)) said now lines later asked h =
    subst (λ (ls : List (List ℕ)). AreFor (owed_lines (followers_of (asked_after text (act_game now)) by text now) ls) (sent_under said ls)) (sym h.0)
    (notice_fits (asked_after text (act_game now)) by text now said)
sent_fits who players past (Dropper c by text) said now lines later asked h =
    elim h [
      | inl none ↦ none_fits (Asker c (ForAct by text)) said lines none.none
      | inr goes ↦ dropped_fits players past c by text now said lines later asked goes
    ]
sent_fits who players past (Pairer c by black text) said now lines later asked h =
    paired_fits players past c by black text (act_game now) said lines later asked h
sent_fits who players past (Followers game act is_table) said now lines later asked h = none_fits Nobody said lines h.0
sent_fits who players past Behind said now lines later asked h = none_fits Nobody said lines h.0

-- the name that holds behind it, where the server takes a name if one was said
silent_behind : (shown : Option (List ℕ)) (line now : List ℕ) → says_name line ≡ false → shown_behind shown line now ≡ name_behind shown line
silent_behind shown line now none =
    ap (λ (b : Bool). if b then (if takes_name (rest_of line) now then Some (rest_of line) else None) else shown) none
    ∙ sym (ap (λ (b : Bool). if b then Some (rest_of line) else shown) none)

taken_if : (b : Bool) → not b ≡ false → b ≡ true
taken_if true h = refl
taken_if false h = absurd (false≢true (sym h))

named_behind : (shown : Option (List ℕ)) (line name now : List ℕ) → line ≡ name_line name → not (takes_name name now) ≡ false →
    shown_behind shown line now ≡ name_behind shown line
named_behind shown line name now is taken =
    let takes : takes_name (rest_of line) now ≡ true =
    ap (λ (l : List ℕ). takes_name (rest_of l) now) is ∙ taken_if (takes_name name now) taken in
    ap (λ (b : Bool). if says_name line then (if b then Some (rest_of line) else None) else shown) takes

same_behind : (o : Owed) (s : Sent) (shown : Option (List ℕ)) (now : List ℕ) (m : Bool) → Fits o s → misnamed_heard o now m ≡ false →
    shown_behind shown s.line now ≡ name_behind shown s.line
same_behind Nobody s shown now m fits taken = silent_behind shown s.line now fits
same_behind (Naming name) s shown now m fits taken = named_behind shown s.line name now fits taken
same_behind (Asker c ForItself) s shown now m fits taken = silent_behind shown s.line now fits
same_behind (Asker c ForPositions) s shown now m fits taken = silent_behind shown s.line now fits
same_behind (Asker c ForTable) s shown now m fits taken = silent_behind shown s.line now fits
same_behind (Asker c (ForGame game)) s shown now m fits taken = silent_behind shown s.line now fits
same_behind (Asker c (ForAct by text)) s shown now m fits taken = silent_behind shown s.line now (act_no_name (sort_of s.line) fits.0)
same_behind (Dropper c by text) s shown now m fits taken = silent_behind shown s.line now fits
same_behind (Pairer c by black text) s shown now m fits taken = silent_behind shown s.line now (act_no_name (sort_of s.line) fits.0)
same_behind (Followers game act is_table) s shown now m fits taken = silent_behind shown s.line now fits
same_behind Behind s shown now m fits taken = silent_behind shown s.line now fits

-- an answer that counts
next_waits : (who : ℕ → Option Identity) (players : List Player) (past : List Step) (owed : List Owed) (sent : List Sent) (shown said : Option (List ℕ)) (now : List ℕ) (m : Bool)
    (lines : List (List ℕ)) (later : Option (List ℕ)) → AreAsked players past owed → Waits owed sent shown said → IsSentNext who owed said now lines later →
    misnamed_next owed now m ≡ false →
    Waits (owed_answered owed now lines) (but_first sent ++ sent_under said lines) (shown_next shown sent now) (name_through said lines)
next_waits who players past [] [] shown said now m lines later asked h goes taken = waits_still [] [] shown said lines goes.0 h
next_waits who players past [] (s ∷ sent) shown said now m lines later asked h goes taken = absurd h.0
next_waits who players past (o ∷ owed) [] shown said now m lines later asked h goes taken = absurd h.0
next_waits who players past (o ∷ owed) (s ∷ sent) shown said now m lines later asked h goes taken =
    let behind = subst (λ (n : Option (List ℕ)). Follow n sent said) (sym (same_behind o s shown now m h.0.0 taken)) h.1.1 in
    waits_more owed (owed_lines (follower o now) lines) sent (shown_behind shown s.line now) said lines
    (sent_fits who players past o said now lines later asked.0 goes) (h.0.1, behind)

-- ---- over a whole run

-- where the server has taken each name
abbrev pub InStep : List Player → List Step → Type 0
InStep players past =
    (known_in players past).misnamed ≡ false → Waits (known_in players past).owed (unanswered_in players past) (shown_in players past) (name_in past)

not_false : (b : Bool) → not b ≡ true → b ≡ false
not_false true h = absurd (false≢true h)
not_false false h = refl

-- an answer counts only where the server has taken each name before it
was_named : (players : List Player) (past : List Step) (line : List ℕ) → is_counted (known_in players past) line ≡ true →
    (known_in players past).misnamed ≡ false
was_named players past line is =
    let k = known_in players past in
    not_false (known_in players past).misnamed (and_parts (is_whole k.left line) (not k.misnamed) is).1

heard_waits : (who : ℕ → Option Identity) (players : List Player) (past : List Step) (line : List ℕ) (lines : List (List ℕ)) (tells : List MessageValue) (later : Option (List ℕ)) →
    InStep players past → AreAsked players past (known_in players past).owed → (b : Bool) → is_counted (known_in players past) line ≡ b →
    IsSentHeard who b (known_in players past).owed (name_in past) (answer (known_in players past).begun line) lines later →
    InStep players (record { event = Heard line; lines = lines; tells = tells } ∷ past)
heard_waits who players past line lines tells later before asked false is goes =
    let k = known_in players past in
    let sent = unanswered_in players past in
    let shown = shown_in players past in
    let said = name_in past in
    let now = answer (known_in players past).begun line in
    λ taken.
    let named : (known_in players past).misnamed ≡ false =
    sym (ap (λ (b : Bool). if b then misnamed_next k.owed now k.misnamed else k.misnamed) is) ∙ taken in
    subst (λ (b : Bool). Waits (if b then owed_answered k.owed now lines else k.owed)
    ((if b then but_first sent else sent) ++ sent_under said lines) (if b then shown_next shown sent now else shown) (name_through said lines)) (sym is)
    (waits_still k.owed sent shown said lines goes.0 (before named))
heard_waits who players past line lines tells later before asked true is goes =
    let k = known_in players past in
    let sent = unanswered_in players past in
    let shown = shown_in players past in
    let said = name_in past in
    let now = answer (known_in players past).begun line in
    let named : (known_in players past).misnamed ≡ false = was_named players past line is in
    λ taken.
    let takes : misnamed_next (known_in players past).owed (answer (known_in players past).begun line) (known_in players past).misnamed ≡ false =
    sym (ap (λ (b : Bool). if b then misnamed_next k.owed now k.misnamed else k.misnamed) is) ∙ taken in
    subst (λ (b : Bool). Waits (if b then owed_answered k.owed now lines else k.owed)
    ((if b then but_first sent else sent) ++ sent_under said lines) (if b then shown_next shown sent now else shown) (name_through said lines)) (sym is)
    (next_waits who players past k.owed sent shown said now k.misnamed lines later asked (before named) goes takes)

done_waits : (players : List Player) (past : List Step) (old : View) (event : DeskInput) (lines : List (List ℕ)) (tells : List MessageValue) (now : View) →
    Agrees players past old → InStep players past → IsDone (players_in players past) old event lines tells now →
    InStep players (record { event = event; lines = lines; tells = tells } ∷ past)
done_waits players past old (Opened c) lines tells now agrees before step =
    λ taken. waits_still (known_in players past).owed (unanswered_in players past) (shown_in players past) (name_in past) lines step.moved.none (before taken)
done_waits players past old (Closed c) lines tells now agrees before step =
    λ taken. waits_still (known_in players past).owed (unanswered_in players past) (shown_in players past) (name_in past) lines step.moved.none (before taken)
done_waits players past old (Hurried c) lines tells now agrees before step =
    λ taken. waits_still (known_in players past).owed (unanswered_in players past) (shown_in players past) (name_in past) lines step.none (before taken)
done_waits players past old (Renewed later) lines tells now agrees before step =
    λ taken. waits_still (known_in players past).owed (unanswered_in players past) (shown_in players past) (name_in past) lines step.none (before taken)
done_waits players past old (Linked c text later token) lines tells now agrees before step =
    λ taken. waits_still (known_in players past).owed (unanswered_in players past) (shown_in players past) (name_in past) lines step.0.none (before taken)
done_waits players past old (ServerTurned is_here) lines tells now agrees before step =
    λ taken. waits_still [] [] None None lines step.none (tt, refl)
done_waits players past old (Found finding) lines tells now agrees before step =
    λ taken. waits_still (known_in players past).owed (unanswered_in players past) (shown_in players past) (name_in past) lines step.none (before taken)
done_waits players past old (Said c text at) lines tells now agrees before step =
    let k = known_in players past in
    let fits = said_fits (players_in players past) old c text lines tells now step.0 in
    let named = subst (λ (n : Option (List ℕ)). AreFor (owed_lines (asker c (name_of (old.who c)) text) lines) (sent_under n lines)) agrees.said fits in
    let by = subst (λ (who : Option Identity). AreFor (owed_lines (asker c (name_of who) text) lines) (sent_under (name_in past) lines)) (agrees.who c) named in
    λ taken. waits_more (known_in players past).owed (owed_lines (asker c (name_of (player_in players past c)) text) lines) (unanswered_in players past)
    (shown_in players past) (name_in past) lines by (before taken)
done_waits players past old (Heard line) lines tells now agrees before step =
    let k = known_in players past in
    let said = subst (λ (n : Option (List ℕ)). IsSentHeard old.who (is_counted old.known line) old.known.owed n (answer old.known.begun line) lines now.said) agrees.said step.sent in
    let known = subst (λ (k : Known). IsSentHeard old.who (is_counted k line) k.owed (name_in past) (answer k.begun line) lines now.said) agrees.known said in
    let asked = subst (λ (k : Known). AreAsked players past k.owed) agrees.known agrees.asked in
    heard_waits old.who players past line lines tells now.said before asked (is_counted (known_in players past) line) refl known

-- the answer to an act, whose line and name are such
act_named : (IsLine IsName : List ℕ → Type 0) (s : Sent) (sent : List Sent) (shown : Option (List ℕ)) →
    ((is_act s.line ≡ true) × IsLine s.line × ((name : List ℕ) × (s.under ≡ Some name) × IsName name)) → s.under ≡ shown →
    IsOfAct IsLine IsName (s ∷ sent) shown
act_named IsLine IsName s sent shown fits is = record {
  line = s.line;
  name = fits.2.0;
  others = sent;
  first = ap (λ (under : Option (List ℕ)). record { line = s.line; under = under } ∷ sent) fits.2.1;
  act = fits.0;
  of_text = fits.1;
  named = fits.2.2;
  holds = sym is ∙ fits.2.1;
}

owed_named : (o : Owed) (owed : List Owed) (sent : List Sent) (shown said : Option (List ℕ)) → Waits (o ∷ owed) sent shown said → IsOfOwed o sent shown
owed_named Nobody owed sent shown said h = tt
owed_named (Naming name) owed sent shown said h = tt
owed_named (Asker c ForItself) owed sent shown said h = tt
owed_named (Asker c ForPositions) owed sent shown said h = tt
owed_named (Asker c ForTable) owed sent shown said h = tt
owed_named (Asker c (ForGame game)) owed sent shown said h = tt
owed_named (Asker c (ForAct by text)) owed [] shown said h = absurd h.0
owed_named (Asker c (ForAct by text)) owed (s ∷ sent) shown said h =
    act_named (IsLineOf text) (IsNameOf by text) s sent shown h.0.0 h.1.0
owed_named (Dropper c by text) owed sent shown said h = tt
owed_named (Pairer c by black text) owed [] shown said h = absurd h.0
owed_named (Pairer c by black text) owed (s ∷ sent) shown said h =
    act_named (λ line. line ≡ pair_line text) (λ name. name ≡ as_name text) s sent shown h.0.0 h.1.0
owed_named (Followers game act is_table) owed sent shown said h = tt
owed_named Behind owed sent shown said h = tt

next_named : (owed : List Owed) (sent : List Sent) (shown said : Option (List ℕ)) → Waits owed sent shown said → IsOfNext owed sent shown
next_named [] sent shown said h = tt
next_named (o ∷ owed) sent shown said h = owed_named o owed sent shown said h

heard_named : (players : List Player) (past : List Step) (line : List ℕ) → InStep players past → (b : Bool) → is_counted (known_in players past) line ≡ b →
    IsOfHeard b (known_in players past).owed (unanswered_in players past) (shown_in players past)
heard_named players past line before false is = tt
heard_named players past line before true is =
    next_named (known_in players past).owed (unanswered_in players past) (shown_in players past) (name_in past) (before (was_named players past line is))

event_named : (players : List Player) (past : List Step) (event : DeskInput) → InStep players past →
    IsOfName event (known_in players past) (unanswered_in players past) (shown_in players past)
event_named players past (Opened c) before = tt
event_named players past (Closed c) before = tt
event_named players past (Said c text at) before = tt
event_named players past (Hurried c) before = tt
event_named players past (Heard line) before = heard_named players past line before (is_counted (known_in players past) line) refl
event_named players past (Renewed later) before = tt
event_named players past (Linked c text later token) before = tt
event_named players past (ServerTurned is_here) before = tt
event_named players past (Found finding) before = tt

pub run_named : (players : List Player) (at_first : Halted) (steps : List Step) (now : View) → IsRun players at_first steps now →
    InStep players steps × AllNamed players steps
run_named players at_first [] now run = (λ taken. (tt, refl), tt)
run_named players at_first (s ∷ past) now run =
    let before = run_named players at_first past run.0 run.1 in
    let good = run_good players at_first past run.0 run.1 in (
      done_waits players past run.0 s.event s.lines s.tells now good.agrees before.0 run.2.done,
      (event_named players past s.event before.0, before.1),
    )
