-- The name that the lobby is shown is the session's.
use Rattle.std.proofs.Common.{ℕ, ◌≡◌, Bool, true, false, ◌||◌, List, [], ◌∷◌, ◌++◌, Option, None, Some, codes, decimal, refl, sym, ap, ◌∙◌, arith}
use Rattle.std.specs.Prelude.{if◌then◌else◌, is_some}
use Rattle.std.proofs.lemmas.Bool.{false≢true}
use Rattle.std.proofs.lemmas.Fmt.{decimal_digit, decimal_step}
use Rattle.chess_entry.specs.declared.commands.Act.{Act as Asked}
use Rattle.chess_entry.specs.declared.commands.Act.TheVariants as acts
use Rattle.chess_entry.specs.declared.refusals.Refusal.TheVariants.{BadLine, BadMoment}
use Rattle.chess_line.specs.declared.lines.Line.{Line}
use Rattle.chess_line.specs.declared.lines.Line.TheVariants.{Called, Act}
use Rattle.chess_line.specs.Line.{act_fields}
use Rattle.std.specs.List.{join_with_byte}
use Rattle.chess_answer.specs.Acts.{named_text}
use Rattle.chess_answer.specs.Fields.{with_fields}
use Rattle.chess_answer.specs.Refusals.{refusal_text, row_of, ply_fields}
use Rattle.std.specs.Option.{MatchOption}
use Rattle.chess_hub.specs.Session.{Said as Answer}
use Rattle.chess_hub.specs.Turn.{IsReading}
use Rattle.chess_hub.specs.Answers.{is_late, given_name, renamed, own_answer, alone, asked}
use Rattle.lobby_words.specs.declared.players.Player.{Player}
use Rattle.lobby_words.specs.Words.{rest_of, as_name, pair_line, sort_of, is_read, is_show_word, is_act_word, is_play_word, are_digits, is_name_sort}
use Rattle.lobby_words.specs.declared.words.Sort.TheVariants as sorts
use Rattle.lobby_words.specs.Naming.{takes_name}
use Rattle.lobby_words.specs.Answers.{ended, answer}
use Rattle.lobby_desk.specs.Events.{DeskInput, Opened, Closed, Said, Hurried, Heard, ServerTurned, Renewed, Linked, Found}
use Rattle.lobby_table.specs.Owed.{ForItself, ForPositions, ForTable, ForGame, ForAct, Owed, Nobody, Naming, Asker}
use Rattle.lobby_table.specs.Owed.{Dropper, Pairer, Followers, Behind}
use Rattle.lobby_desk.specs.Tellings.{Known, is_counted}
use Rattle.lobby_desk.specs.Who.{View}
use Rattle.lobby_players.specs.Halts.{Halted}
use Rattle.lobby_desk.specs.History.{Step, Sent, says_name, known_in, unanswered_in, shown_behind, shown_next, shown_now, shown_in, IsRun, IsLineOf, IsNameOf, IsOfAct, IsOfOwed, IsOfNext, IsOfHeard, IsOfName, AllNamed}
use Rattle.lobby_desk.proofs.Named.{run_named}
use Rattle.answer_laws.specs.Names.{Taken, IsTaken, name_after, Told, told_first, told_now, told_in, text_of, AreTaken, IsEnteredAs, IsEnteredFor, IsEnteredNext, IsEnteredHeard, IsEntered, AllEntered}

-- ---- what the server reads

-- a question about a game is one, or nothing that is known
asked_silent : (d : Bool) → is_name_sort (if d || false then sorts.Read else sorts.Nothing) ≡ false
asked_silent true = refl
asked_silent false = refl

act_words : (act : Asked) → says_name (join_with_byte 32 (act_fields act)) ≡ false
unfolding sort_of is_read is_show_word is_act_word is_play_word
act_words (acts.NewGame colour initial increment fen period) = refl
act_words (acts.Join game) = refl
act_words (acts.Play game ply text) = refl
act_words (acts.Offer game) = refl
act_words (acts.Accept game) = refl
act_words (acts.Decline game) = refl
act_words (acts.Resign game) = refl
act_words (acts.Claim game ply fifty text) = refl
act_words (acts.Flag game) = refl
act_words (acts.Remove game) = refl
act_words (acts.Show game) = asked_silent (are_digits (decimal game))
act_words (acts.Fen game) = asked_silent (are_digits (decimal game))
act_words (acts.Pgn game) = asked_silent (are_digits (decimal game))
act_words acts.List = refl

name_words : (name : List ℕ) → says_name (join_with_byte 32 (codes "name" ∷ name ∷ [])) ≡ true
unfolding sort_of
name_words name = refl

name_rest : (name : List ℕ) → rest_of (join_with_byte 32 (codes "name" ∷ name ∷ [])) ≡ name
name_rest name = refl

-- ---- a line that says a name

refused_line : (name : List ℕ) → takes_name name (ended (refusal_text BadLine) ++ []) ≡ false
refused_line name =
    ap (λ (d : List ℕ). takes_name name (ended (with_fields (codes "no") (d ∷ (row_of BadLine).name ∷ ply_fields BadLine)) ++ []))
    (decimal_digit 1 (omega arith))

late_number : decimal 23 ≡ 50 ∷ 51 ∷ []
late_number = decimal_step 23 (omega arith) (omega arith) ∙ ap (λ (d : List ℕ). d ++ 51 ∷ []) (decimal_digit 2 (omega arith))

refused_moment : (name : List ℕ) → takes_name name (ended (refusal_text BadMoment) ++ []) ≡ false
refused_moment name =
    ap (λ (d : List ℕ). takes_name name (ended (with_fields (codes "no") (d ∷ (row_of BadMoment).name ∷ ply_fields BadMoment)) ++ []))
    late_number

named_if : (at : ℕ) (text name : List ℕ) (said : Answer) (b : Bool) → said ≡ alone (if b then refusal_text BadMoment else named_text name) →
    name ≡ rest_of text → takes_name (rest_of text) (text_of said) ≡ true → (if b then None else Some name) ≡ Some (rest_of text)
named_if at text name said true own is takes =
    absurd (false≢true (sym (ap (λ (s : Answer). takes_name (rest_of text) (text_of s)) own ∙ refused_moment (rest_of text)) ∙ takes))
named_if at text name said false own is takes = ap Some is

named_given : (at : ℕ) (text : List ℕ) (read : Option Line) (said : Answer) → IsReading text read →
    MatchOption (own_answer at read) (Unit {0}) (λ line. said ≡ alone line) → says_name text ≡ true →
    takes_name (rest_of text) (text_of said) ≡ true → given_name at read ≡ Some (rest_of text)
named_given at text None said reads own is takes =
    absurd (false≢true (sym (ap (λ (s : Answer). takes_name (rest_of text) (text_of s)) own ∙ refused_line (rest_of text)) ∙ takes))
named_given at text (Some (Called name)) said reads own is takes =
    named_if at text name said (is_late at) own (sym (ap rest_of reads.form.spelled ∙ name_rest name)) takes
named_given at text (Some (Act act)) said reads own is takes =
    absurd (false≢true (sym (ap says_name reads.form.spelled ∙ act_words act) ∙ is))

-- any other line leaves the session its name
silent_given : (at : ℕ) (text : List ℕ) (read : Option Line) (name : Option (List ℕ)) → IsReading text read → says_name text ≡ false →
    renamed (given_name at read) name ≡ name
silent_given at text None name reads none = refl
silent_given at text (Some (Called given)) name reads none =
    absurd (false≢true (sym none ∙ (ap says_name reads.form.spelled ∙ name_words given)))
silent_given at text (Some (Act act)) name reads none = refl

-- ---- line by line

abbrev pub Follows : Option (List ℕ) → Option (List ℕ) → Type 0
Follows shown name = (n : List ℕ) → shown ≡ Some n → name ≡ Some n

step_named : (t : Taken) (name : Option (List ℕ)) (n : List ℕ) → IsTaken t → says_name t.text ≡ true → (b : Bool) →
    takes_name (rest_of t.text) (text_of t.said) ≡ b → (if b then Some (rest_of t.text) else None) ≡ Some n →
    renamed (given_name t.at t.read) name ≡ Some n
step_named t name n is says true takes h =
    ap (λ (given : Option (List ℕ)). renamed given name) (named_given t.at t.text t.read t.said is.reads is.own says takes) ∙ h
step_named t name n is says false takes h = absurd (false≢true (ap is_some h))

step_at : (t : Taken) (shown name : Option (List ℕ)) (n : List ℕ) → IsTaken t → Follows shown name → (b : Bool) → says_name t.text ≡ b →
    (if b then (if takes_name (rest_of t.text) (text_of t.said) then Some (rest_of t.text) else None) else shown) ≡ Some n →
    renamed (given_name t.at t.read) name ≡ Some n
step_at t shown name n is same true says h = step_named t name n is says (takes_name (rest_of t.text) (text_of t.said)) refl h
step_at t shown name n is same false says h = silent_given t.at t.text t.read name is.reads says ∙ same n h

step : (t : Taken) (a : Told) (shown name : Option (List ℕ)) → t.text ≡ a.line → text_of t.said ≡ a.answer → IsTaken t → Follows shown name →
    Follows (shown_behind shown a.line a.answer) (renamed (given_name t.at t.read) name)
step t a shown name line answered is same =
    λ n h. step_at t shown name n is same (says_name t.text) refl
    (ap (λ (l : List ℕ). shown_behind shown l (text_of t.said)) line ∙ (ap (shown_behind shown a.line) answered ∙ h))

abbrev pub shown_over : Option (List ℕ) → List Told → Option (List ℕ)
shown_over shown [] = shown
shown_over shown (a ∷ told) = shown_over (shown_behind shown a.line a.answer) told

over : (shown name : Option (List ℕ)) → Follows shown name → (told : List Told) (taken : List Taken) → AreTaken told taken →
    Follows (shown_over shown told) (name_after name taken)
over shown name same [] [] are = same
over shown name same [] (t ∷ taken) are = absurd are
over shown name same (a ∷ told) [] are = absurd are
over shown name same (a ∷ told) (t ∷ taken) are =
    over (shown_behind shown a.line a.answer) (renamed (given_name t.at t.read) name) (step t a shown name are.0 are.1 are.2 same) told taken are.3

-- ---- what the lobby is shown

over_more : (shown : Option (List ℕ)) (told : List Told) (sent : List Sent) (now : List ℕ) →
    shown_over shown (told ++ told_first sent now) ≡ shown_next (shown_over shown told) sent now
over_more shown [] [] now = refl
over_more shown [] (s ∷ sent) now = refl
over_more shown (a ∷ told) sent now = over_more (shown_behind shown a.line a.answer) told sent now

shown_if : (b : Bool) (shown : Option (List ℕ)) (told : List Told) (sent : List Sent) (now : List ℕ) → shown ≡ shown_over None told →
    (if b then shown_next shown sent now else shown) ≡ shown_over None (if b then told ++ told_first sent now else told)
shown_if true shown told sent now is =
    ap (λ (s : Option (List ℕ)). shown_next s sent now) is ∙ sym (over_more None told sent now)
shown_if false shown told sent now is = is

shown_then : (players : List Player) (past : List Step) (event : DeskInput) → shown_in players past ≡ shown_over None (told_in players past) →
    shown_now event (known_in players past) (unanswered_in players past) (shown_in players past)
    ≡ shown_over None (told_now event (known_in players past) (unanswered_in players past) (told_in players past))
shown_then players past (Opened c) is = is
shown_then players past (Closed c) is = is
shown_then players past (Said c text at) is = is
shown_then players past (Hurried c) is = is
shown_then players past (Heard line) is =
    shown_if (is_counted (known_in players past) line) (shown_in players past) (told_in players past) (unanswered_in players past)
    (answer (known_in players past).begun line) is
shown_then players past (Renewed later) is = is
shown_then players past (Linked c text later token) is = is
shown_then players past (ServerTurned is_here) is = refl
shown_then players past (Found finding) is = is

all_shown : (players : List Player) (steps : List Step) → shown_in players steps ≡ shown_over None (told_in players steps)
all_shown players [] = refl
all_shown players (s ∷ past) = shown_then players past s.event (all_shown players past)

-- ---- an act

act_entered : (IsLine IsName : List ℕ → Type 0) (sent : List Sent) (shown : Option (List ℕ)) (told : List Told) → shown ≡ shown_over None told →
    IsOfAct IsLine IsName sent shown → IsEnteredAs IsLine IsName sent told
act_entered IsLine IsName sent shown told is h = record {
  line = h.line;
  name = h.name;
  of_text = h.of_text;
  named = h.named;
  others = h.others;
  next = h.first;
  entered = λ taken at act are.
      ap (λ (who : Option (List ℕ)). asked at who (Some (Act act))) (over None None (λ n k. k) told taken are h.name (sym is ∙ h.holds));
}

owed_entered : (o : Owed) (sent : List Sent) (shown : Option (List ℕ)) (told : List Told) → shown ≡ shown_over None told →
    IsOfOwed o sent shown → IsEnteredFor o sent told
owed_entered Nobody sent shown told is h = tt
owed_entered (Naming name) sent shown told is h = tt
owed_entered (Asker c ForItself) sent shown told is h = tt
owed_entered (Asker c ForPositions) sent shown told is h = tt
owed_entered (Asker c ForTable) sent shown told is h = tt
owed_entered (Asker c (ForGame game)) sent shown told is h = tt
owed_entered (Asker c (ForAct by text)) sent shown told is h = act_entered (IsLineOf text) (IsNameOf by text) sent shown told is h
owed_entered (Dropper c by text) sent shown told is h = tt
owed_entered (Pairer c by black text) sent shown told is h =
    act_entered (λ line. line ≡ pair_line text) (λ name. name ≡ as_name text) sent shown told is h
owed_entered (Followers game act is_table) sent shown told is h = tt
owed_entered Behind sent shown told is h = tt

next_entered : (owed : List Owed) (sent : List Sent) (shown : Option (List ℕ)) (told : List Told) → shown ≡ shown_over None told →
    IsOfNext owed sent shown → IsEnteredNext owed sent told
next_entered [] sent shown told is h = tt
next_entered (o ∷ owed) sent shown told is h = owed_entered o sent shown told is h

heard_entered : (b : Bool) (owed : List Owed) (sent : List Sent) (shown : Option (List ℕ)) (told : List Told) → shown ≡ shown_over None told →
    IsOfHeard b owed sent shown → IsEnteredHeard b owed sent told
heard_entered true owed sent shown told is h = next_entered owed sent shown told is h
heard_entered false owed sent shown told is h = tt

event_entered : (event : DeskInput) (k : Known) (sent : List Sent) (shown : Option (List ℕ)) (told : List Told) → shown ≡ shown_over None told →
    IsOfName event k sent shown → IsEntered event k sent told
event_entered (Opened c) k sent shown told is h = tt
event_entered (Closed c) k sent shown told is h = tt
event_entered (Said c text at) k sent shown told is h = tt
event_entered (Hurried c) k sent shown told is h = tt
event_entered (Heard line) k sent shown told is h = heard_entered (is_counted k line) k.owed sent shown told is h
event_entered (Renewed later) k sent shown told is h = tt
event_entered (Linked c text later token) k sent shown told is h = tt
event_entered (ServerTurned is_here) k sent shown told is h = tt
event_entered (Found finding) k sent shown told is h = tt

all_entered : (players : List Player) (steps : List Step) → AllNamed players steps → AllEntered players steps
all_entered players [] h = tt
all_entered players (s ∷ past) h = (
  event_entered s.event (known_in players past) (unanswered_in players past) (shown_in players past) (told_in players past)
      (all_shown players past) h.0,
  all_entered players past h.1,
)

pub run_entered : (players : List Player) (at_first : Halted) (steps : List Step) (now : View) → IsRun players at_first steps now →
    AllEntered players steps
run_entered players at_first steps now run = all_entered players steps (run_named players at_first steps now run).1
