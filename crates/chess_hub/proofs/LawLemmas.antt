-- What holds after any calls, and that each call keeps it.
use Rattle.std.proofs.Common.{◌≡◌, ◌≢◌, ℕ, suc, ◌+◌, ◌≤◌, true, false, List, [], ◌∷◌, ◌++◌, length, map, drop, get_or, refl, ap, sym, subst, ◌∙◌, arith, inl, inr, Option, Some, None}
use Rattle.std.specs.Prelude.{◌==◌, ◌&&◌, cond, option_map, is_some, IsSome, IsSomeAnd}
use Rattle.std.specs.List.{All, AllZip}
use Rattle.std.specs.Option.{MatchOption}
use Rattle.std.proofs.lemmas.Bool.{cases_Bool, cases_eq, eqb-true}
use Rattle.std.proofs.lemmas.List.Elements.{All-nil, All-append, All-map, All-weaker, All-head, All-tail, All-cons}
use Rattle.std.proofs.lemmas.List.Sums.{sum_by-cons}
use Rattle.slab.specs.Slab.{get, entries}
use Rattle.text_lines.specs.Lines.{lines_of, has_long_line}
use Rattle.text_lines.specs.Heard.{heard_more}
use Rattle.chess_entry.specs.State.{TableState}
use Rattle.chess_hub.specs.declared.sessions.Session.{Session}
use Rattle.chess_hub.specs.declared.sessions.Sessions.{Sessions}
use Rattle.chess_hub.specs.declared.turn.TurnLine.{TurnLine}
use Rattle.chess_hub.proofs.RoomLemmas.{shown-some}
use Rattle.chess_hub.specs.Session.{Said, SessionState, shown, session_at, fresh, Changes, due, farewell, first_due, given_one, is_none_waiting}
use Rattle.chess_hub.specs.Turn.{Waiting, SessionLine, turn_lines, waiting, waiting_of, AreTurnLines}
use Rattle.chess_hub.specs.Answers.{name_of, name_at}
use Rattle.chess_hub.specs.Delivery.{Answered, own, HasAnswered}
use Rattle.chess_hub.proofs.TurnLineLemmas.{open-turn, open-read}
use Rattle.chess_hub.specs.Calls.{Call, Connected, Closed, Fed, Turned, Given, is_open, begun_count, which, input_of, given_to}
use Rattle.chess_hub.specs.Sessions.{Merged, AreOpenIn, IsMergedAs, AreMerged, AreAnsweredAfter, taken_count, name_from, answers_to, lines_left, waiting_lines, session_text}
use Rattle.chess_hub.specs.Turning.{HasTurned}
use Rattle.chess_hub.specs.Law.{HubState, Steps, Stays, Leads, HasItsText, IsFront, LawOfSessions}
use Rattle.chess_hub.proofs.CallLemmas.{which-begun, View, view, view-connected, view-connected-other, open-closed, view-closed-other, view-fed, view-fed-other, view-given, view-given-other}
use Rattle.chess_hub.proofs.SlotLemmas.{map-agree, keys, keys-rise, keys-are, entries-are}
use Rattle.chess_hub.proofs.CountLemmas.{taken_of, line_count, taken-few}
use Rattle.chess_hub.proofs.HearingLemmas.{hearing-waits}
use Rattle.chess_hub.proofs.AnswerLemmas.{merged_of, AllOpen, AreNames, name_from-append, answered-append, lines-answered}
use Rattle.chess_hub.proofs.TextLemmas.{lines_in, says, AnsweredOpen, answers-more, count-more, name-own, answered-long, HaveBegun, own-or-none, answers-none, count-none}
use Rattle.chess_hub.proofs.SessionLemmas.{IsSession, IsOne, text_of, session-text, session-begins, session-fed, session-given, Adds, session-turned}

-- What holds after calls, with a merged list and answers to it.
pub record Holds (table : TableState) (calls : List Call) (s : HubState) (merged : List Merged) (answers : List Said)
    : Type 0 where
  pub are_merged : AreMerged calls merged
  pub answered : AreAnsweredAfter [] table merged answers s.table
  pub begun : HaveBegun (begun_count calls) merged
  pub each : (sid : ℕ) → IsOne (view calls sid) merged answers (session_at s.sessions sid)
  pub past : (session : ℕ) → IsFront (given_to session calls) (session_text calls merged answers session)

pub record HoldSome (table : TableState) (calls : List Call) (s : HubState) : Type 0 where
  pub merged : List Merged
  pub answers : List Said
  pub are : Holds table calls s merged answers

-- ---- before any call, and where nothing changes

holds-none : (table : TableState) (s : HubState) → ((sid : ℕ) → session_at s.sessions sid ≡ None) → s.table ≡ table →
    Holds table [] s [] []
holds-none table s none same = record {
  are_merged = refl;
  answered = (refl, same);
  begun = All-nil (λ m. m.session ≤ 0);
  each = λ sid. subst (IsOne (view [] sid) [] []) (sym (none sid)) refl;
  past = λ session. record { left = []; whole = refl };
}

holds-stays : (table : TableState) (calls : List Call) (old new : HubState) (merged : List Merged)
    (answers : List Said) → Holds table calls old merged answers → Stays old new → Holds table calls new merged answers
holds-stays table calls old new merged answers h stays = record {
  are_merged = h.are_merged;
  answered = subst (AreAnsweredAfter [] table merged answers) (sym stays.table) h.answered;
  begun = h.begun;
  each = λ sid. subst (IsOne (view calls sid) merged answers) (sym (stays.sessions sid)) (h.each sid);
  past = h.past;
}

-- ---- one session changes

each-changed : (calls next : List Call) (sid : ℕ) (old new : Sessions) (now : Option SessionState)
    (merged : List Merged) (answers : List Said) → Changes old new sid now → IsOne (view next sid) merged answers now →
    ((other : ℕ) → other ≢ sid → view next other ≡ view calls other) →
    ((other : ℕ) → IsOne (view calls other) merged answers (session_at old other)) →
    (other : ℕ) → IsOne (view next other) merged answers (session_at new other)
each-changed calls next sid old new now merged answers changes here same each other =
    elim (cases_eq other sid) [
      | inl e ↦ subst (λ n. IsOne (view next n) merged answers (session_at new n)) (sym e)
          (subst (IsOne (view next sid) merged answers) (sym changes.changed) here)
      | inr ne ↦ subst (λ v. IsOne v merged answers (session_at new other)) (sym (same other ne))
          (subst (IsOne (view calls other) merged answers) (sym (changes.others other ne)) (each other))
    ]

holds-connected : (table : TableState) (calls : List Call) (sid : ℕ) (old new : HubState) (merged : List Merged)
    (answers : List Said) → Holds table calls old merged answers →
    Changes old.sessions new.sessions sid (Some fresh) → new.table ≡ old.table →
    Holds table (Connected sid ∷ calls) new merged answers
holds-connected table calls sid old new merged answers h changes same = record {
  are_merged = h.are_merged;
  answered = subst (AreAnsweredAfter [] table merged answers) (sym same) h.answered;
  begun = All-weaker (λ m. m.session ≤ begun_count calls) (λ m. m.session ≤ suc (begun_count calls))
      (λ m l. omega arith) merged h.begun;
  each = each-changed calls (Connected sid ∷ calls) sid old.sessions new.sessions (Some fresh) merged answers changes
      (subst (λ v. IsSession v merged answers fresh) (sym (view-connected calls sid))
      (session-begins (begun_count calls) merged answers h.begun))
      (view-connected-other calls sid) h.each;
  past = h.past;
}

holds-closed : (table : TableState) (calls : List Call) (sid : ℕ) (old new : HubState) (merged : List Merged)
    (answers : List Said) → Holds table calls old merged answers →
    Changes old.sessions new.sessions sid None → new.table ≡ old.table →
    Holds table (Closed sid ∷ calls) new merged answers
holds-closed table calls sid old new merged answers h changes same = record {
  are_merged = h.are_merged;
  answered = subst (AreAnsweredAfter [] table merged answers) (sym same) h.answered;
  begun = h.begun;
  each = each-changed calls (Closed sid ∷ calls) sid old.sessions new.sessions None merged answers changes
      (open-closed calls sid) (view-closed-other calls sid) h.each;
  past = h.past;
}

-- the session of a number, where it is open
here-is : (v : View) (merged : List Merged) (answers : List Said) (o : Option SessionState) (s : SessionState) →
    o ≡ Some s → IsOne v merged answers o → IsSession v merged answers s
here-is v merged answers o s e is = subst (IsOne v merged answers) e is

front-of : (v : View) (merged : List Merged) (answers : List Said) (s : SessionState) → IsSession v merged answers s →
    IsFront v.given (text_of v merged answers)
front-of v merged answers s is = record { left = due s; whole = session-text v merged answers s is }

-- the beginnings of the texts, where one session changes
past-changed : (calls next : List Call) (sid : ℕ) (merged : List Merged) (answers : List Said) (s : SessionState) →
    IsSession (view next sid) merged answers s → which sid next ≡ which sid calls →
    ((session : ℕ) → (which sid calls == session) ≡ false →
    IsFront (given_to session next) (session_text next merged answers session)) →
    (session : ℕ) → IsFront (given_to session next) (session_text next merged answers session)
past-changed calls next sid merged answers s is same others session =
    elim (cases_Bool (which sid calls == session)) [
      | inl e ↦ subst (λ n. IsFront (given_to n next) (session_text next merged answers n))
          (same ∙ eqb-true (which sid calls) session e) (front-of (view next sid) merged answers s is)
      | inr e ↦ others session e
    ]

holds-fed : (table : TableState) (calls : List Call) (sid : ℕ) (piece : List ℕ) (old new : HubState)
    (merged : List Merged) (answers : List Said) (s : SessionState) → Holds table calls old merged answers →
    session_at old.sessions sid ≡ Some s → s.heard.is_long ≡ false →
    Changes old.sessions new.sessions sid (Some (record s { heard = heard_more s.heard piece })) →
    new.table ≡ old.table → Holds table (Fed sid piece ∷ calls) new merged answers
holds-fed table calls sid piece old new merged answers s h was short changes same =
    let is : IsSession (view calls sid) merged answers s =
    here-is (view calls sid) merged answers (session_at old.sessions sid) s was (h.each sid) in
    let now : IsSession (view (Fed sid piece ∷ calls) sid) merged answers
    (record s { heard = heard_more s.heard piece }) =
    subst (λ v. IsSession v merged answers (record s { heard = heard_more s.heard piece }))
    (sym (view-fed calls sid piece)) (session-fed (view calls sid) merged answers s piece is short) in
    record {
      are_merged = h.are_merged;
      answered = subst (AreAnsweredAfter [] table merged answers) (sym same) h.answered;
      begun = h.begun;
      each = each-changed calls (Fed sid piece ∷ calls) sid old.sessions new.sessions
          (Some (record s { heard = heard_more s.heard piece })) merged answers changes now
          (λ other ne. view-fed-other calls sid other piece is.opens ne) h.each;
      past = past-changed calls (Fed sid piece ∷ calls) sid merged answers
          (record s { heard = heard_more s.heard piece }) now refl (λ session e. rw e (h.past session));
    }

holds-given : (table : TableState) (calls : List Call) (sid : ℕ) (answer : Said) (old new : HubState)
    (merged : List Merged) (answers : List Said) (s : SessionState) → Holds table calls old merged answers →
    session_at old.sessions sid ≡ Some s → first_due (due s) ≡ Some answer →
    Changes old.sessions new.sessions sid (Some (given_one s)) → new.table ≡ old.table →
    Holds table (Given sid answer ∷ calls) new merged answers
holds-given table calls sid answer old new merged answers s h was first changes same =
    let is : IsSession (view calls sid) merged answers s =
    here-is (view calls sid) merged answers (session_at old.sessions sid) s was (h.each sid) in
    let now : IsSession (view (Given sid answer ∷ calls) sid) merged answers (given_one s) =
    subst (λ v. IsSession v merged answers (given_one s)) (sym (view-given calls sid answer))
    (session-given (view calls sid) merged answers s answer is first) in
    record {
      are_merged = h.are_merged;
      answered = subst (AreAnsweredAfter [] table merged answers) (sym same) h.answered;
      begun = h.begun;
      each = each-changed calls (Given sid answer ∷ calls) sid old.sessions new.sessions (Some (given_one s)) merged
          answers changes now (λ other ne. view-given-other calls sid other answer is.opens ne) h.each;
      past = past-changed calls (Given sid answer ∷ calls) sid merged answers (given_one s) now refl
          (λ session e. rw e (h.past session));
    }

-- ---- a turn: which sessions are open

opens-same : (v : View) (merged : List Merged) (answers : List Said) (o : Option SessionState) →
    IsOne v merged answers o → v.is_open ≡ is_some o
opens-same v merged answers None is = is
opens-same v merged answers (Some s) is = is.opens

-- a number is of an open session exactly where its slot has one
slot-open : (table : TableState) (calls : List Call) (s : HubState) (merged : List Merged) (answers : List Said) →
    Holds table calls s merged answers → (sid : ℕ) → is_open sid calls ≡ is_some (get s.sessions.slab sid)
slot-open table calls s merged answers h sid =
    opens-same (view calls sid) merged answers (session_at s.sessions sid) (h.each sid)
    ∙ shown-some (get s.sessions.slab sid)

open-keys : (table : TableState) (calls : List Call) (s : HubState) (merged : List Merged) (answers : List Said) →
    Holds table calls s merged answers → AreOpenIn calls (keys s.sessions.slab)
open-keys table calls s merged answers h = record {
  rising = keys-rise s.sessions.slab;
  each = λ sid. (
    λ has. slot-open table calls s merged answers h sid ∙ (keys-are s.sessions.slab sid).0 has,
    λ opens. (keys-are s.sessions.slab sid).1 (sym (slot-open table calls s merged answers h sid) ∙ opens),
  );
}

-- ---- a turn: which lines wait

map-over : {X Y Z : Type 0} (f : X → Y) (g : Y → Z) (xs : List X) → map g (map f xs) ≡ map (λ x. g (f x)) xs
map-over f g [] = refl
map-over f g (x ∷ xs) = ap (λ ys. g (f x) ∷ ys) (map-over f g xs)

abbrev waits : ℕ → List (List ℕ) → Waiting
waits sid lines = record { sid = sid; lines = lines }

entry-waits : (table : TableState) (calls : List Call) (s : HubState) (merged : List Merged) (answers : List Said) →
    Holds table calls s merged answers → (e : ℕ × Session) → get s.sessions.slab e.0 ≡ Some e.1 →
    waiting_lines calls merged e.0 ≡ waiting e
entry-waits table calls s merged answers h e found =
    let is : IsSession (view calls e.0) merged answers (shown e.1) =
    here-is (view calls e.0) merged answers (session_at s.sessions e.0) (shown e.1)
    (ap (option_map shown) found) (h.each e.0) in
    ap (waits e.0)
    (sym (hearing-waits (input_of (which e.0 calls) calls) (taken_count (which e.0 calls) merged) (shown e.1).heard
    is.hearing))

waiting-same : (table : TableState) (calls : List Call) (s : HubState) (merged : List Merged) (answers : List Said) →
    Holds table calls s merged answers →
    map (waiting_lines calls merged) (keys s.sessions.slab) ≡ waiting_of s.sessions
waiting-same table calls s merged answers h =
    map-over (λ (e : ℕ × Session). e.0) (waiting_lines calls merged) (entries s.sessions.slab)
    ∙ map-agree (λ (e : ℕ × Session). waiting_lines calls merged e.0) waiting (entries s.sessions.slab)
    (All-weaker (λ (e : ℕ × Session). get s.sessions.slab e.0 ≡ Some e.1)
    (λ (e : ℕ × Session). waiting_lines calls merged e.0 ≡ waiting e)
    (entry-waits table calls s merged answers h) (entries s.sessions.slab) (entries-are s.sessions.slab))

merged-as : (calls : List Call) (at : ℕ) (lines : List SessionLine) (taken : List TurnLine) → AreTurnLines lines taken →
    AllZip (IsMergedAs calls at) lines (map (merged_of calls at) taken)
merged-as calls at [] [] zip = tt
merged-as calls at [] (t ∷ taken) zip = absurd zip
merged-as calls at (l ∷ lines) [] zip = absurd zip
merged-as calls at (l ∷ lines) (t ∷ taken) zip = (
  record { session = ap (λ sid. which sid calls) zip.0.sid; moment = refl; reads = zip.0.reads },
  merged-as calls at lines taken zip.1,
)

-- ---- a turn: names

names-are : (table : TableState) (calls : List Call) (s : HubState) (merged : List Merged) (answers : List Said) →
    Holds table calls s merged answers → AreNames calls merged (name_at s.sessions)
names-are table calls s merged answers h sid opens =
    name-is (view calls sid) merged answers (session_at s.sessions sid) (h.each sid) opens
  where
    name-is : (v : View) (merged : List Merged) (answers : List Said) (o : Option SessionState) →
        IsOne v merged answers o → v.is_open ≡ true → name_of o ≡ name_from v.session None merged
    name-is v merged answers None is opens = absurd (let bad : false ≡ true = sym is ∙ opens in cc)
    name-is v merged answers (Some s) is opens = is.name

-- ---- a turn: the sessions of its lines

all-mapped : {X Y : Type 0} (P : Y → Type 0) (f : X → Y) (xs : List X) → All P (map f xs) → All (λ x. P (f x)) xs
all-mapped P f [] h = All-nil (λ x. P (f x))
all-mapped P f (x ∷ xs) h =
    All-cons (λ x. P (f x)) x xs (All-head P (f x) (map f xs) h) (all-mapped P f xs (All-tail P (f x) (map f xs) h))

count-mapped : (sid : ℕ) (answered : List Answered) →
    length (own sid answered) ≡ taken_of sid (map (λ a. a.taken) answered)
count-mapped sid [] = refl
count-mapped sid (a ∷ answered) =
    elim (a.taken.sid == sid) as (λ t. length (cond t (a ∷ own sid answered) (own sid answered))
    ≡ cond t 1 0 + taken_of sid (map (λ a. a.taken) answered)) [
      | true ↦ omega (arith, count-mapped sid answered)
      | false ↦ omega (arith, count-mapped sid answered)
    ]
    ∙ sym (sum_by-cons (λ (t : TurnLine). cond (t.sid == sid) 1 0) a.taken (map (λ a. a.taken) answered))

taken-open : (table : TableState) (calls : List Call) (s : HubState) (merged : List Merged) (answers : List Said)
    (most : ℕ) (taken : List TurnLine) → Holds table calls s merged answers →
    AreTurnLines (turn_lines most (waiting_of s.sessions)) taken → AllOpen calls taken
taken-open table calls s merged answers most taken h zip =
    All-weaker (λ (t : TurnLine). IsSome (get s.sessions.slab t.sid)) (λ (t : TurnLine). is_open t.sid calls ≡ true)
    (λ t some. slot-open table calls s merged answers h t.sid ∙ some) taken
    (open-read s.sessions.slab (turn_lines most (waiting_of s.sessions)) taken zip (open-turn s.sessions.slab most))

-- ---- a turn: one session

one-turned : (at : ℕ) (v : View) (lines : List Answered) (merged more : List Merged) (answers others : List Said)
    (g : Option Session) (n : Option SessionState) → IsOne v merged answers (option_map shown g) →
    Adds at v.session lines merged answers more others → ((s : Session) → g ≡ Some s → length lines ≤ line_count s) →
    MatchOption (option_map shown g) (n ≡ None) (λ s. IsSomeAnd n (HasAnswered at lines s)) → IsOne v more others n
one-turned at v lines merged more answers others None n is adds few has =
    subst (IsOne v more others) (sym has) is
one-turned at v lines merged more answers others (Some s) None is adds few has = absurd has
one-turned at v lines merged more answers others (Some s) (Some t) is adds few has =
    session-turned at v lines merged more answers others (shown s) t is adds (few s refl) has

adds-own : (calls : List Call) (at sid : ℕ) (merged : List Merged) (answers : List Said) (answered : List Answered) →
    length answers ≡ length merged → AnsweredOpen calls answered →
    Adds at (which sid calls) (own sid answered) merged answers (merged ++ lines_in calls at answered)
    (answers ++ says answered)
adds-own calls at sid merged answers answered long opens = record {
  count = count-more calls at sid merged answered opens;
  text = answers-more calls at sid merged answers answered long opens;
  name = name_from-append (which sid calls) None merged (lines_in calls at answered)
      ∙ name-own calls at sid (name_from (which sid calls) None merged) answered opens;
}

-- ---- a turn: the beginnings of the texts

open-front : (v : View) (merged : List Merged) (answers : List Said) (o : Option SessionState) → v.is_open ≡ true →
    IsOne v merged answers o → IsFront v.given (text_of v merged answers)
open-front v merged answers None opens is = absurd (let bad : false ≡ true = sym is ∙ opens in cc)
open-front v merged answers (Some s) opens is = front-of v merged answers s is

past-turned : (calls : List Call) (at session : ℕ) (merged : List Merged) (answers : List Said)
    (answered : List Answered) (new : Sessions) → length answers ≡ length merged → AnsweredOpen calls answered →
    ((sid : ℕ) → IsOne (view calls sid) (merged ++ lines_in calls at answered) (answers ++ says answered)
    (session_at new sid)) →
    IsFront (given_to session calls) (session_text calls merged answers session) →
    IsFront (given_to session calls)
    (session_text calls (merged ++ lines_in calls at answered) (answers ++ says answered) session)
past-turned calls at session merged answers answered new long opens each past =
    let more = merged ++ lines_in calls at answered in
    let others = answers ++ says answered in
    elim (own-or-none calls at session answered opens) [
      | inl h ↦ subst (λ n. IsFront (given_to n calls) (session_text calls more others n)) h.is
          (open-front (view calls h.sid) more others (session_at new h.sid) h.opens (each h.sid))
      | inr h ↦
          let count : taken_count session more ≡ taken_count session merged =
          count-none session merged (lines_in calls at answered) (says answered) h in
          let text : answers_to session more others ≡ answers_to session merged answers =
          answers-none session merged (lines_in calls at answered) answers (says answered) long h in
          record {
            left = past.left;
            whole = past.whole
                ∙ ap (λ xs. xs ++ cond (has_long_line (input_of session calls)
                && is_none_waiting (lines_left calls merged session)) (farewell ∷ []) []) (sym text)
                ∙ ap (λ n. answers_to session more others ++ cond (has_long_line (input_of session calls)
                && is_none_waiting (drop n (lines_of (input_of session calls)))) (farewell ∷ []) []) (sym count);
          }
    ]

-- ---- a turn

holds-turned : (table : TableState) (calls : List Call) (at most : ℕ) (old new : HubState) (merged : List Merged)
    (answers : List Said) → Holds table calls old merged answers →
    HasTurned at most old.sessions new.sessions old.table new.table → HoldSome table (Turned at most ∷ calls) new
holds-turned table calls at most old new merged answers h turn =
    let answered = turn.answered in
    let more = merged ++ lines_in calls at answered in
    let others = answers ++ says answered in
    let long : length answers ≡ length merged = answered-long [] table merged answers old.table h.answered in
    let lines : map (merged_of calls at) turn.taken ≡ lines_in calls at answered =
    ap (map (merged_of calls at)) (sym turn.whose)
    ∙ map-over (λ (a : Answered). a.taken) (merged_of calls at) answered in
    let opens : AllOpen calls turn.taken = taken-open table calls old merged answers most turn.taken h turn.lines in
    let all : AnsweredOpen calls answered =
    all-mapped (λ (t : TurnLine). is_open t.sid calls ≡ true) (λ (a : Answered). a.taken) answered
    (subst (AllOpen calls) (sym turn.whose) opens) in
    let each : (sid : ℕ) → IsOne (view calls sid) more others (session_at new.sessions sid) = λ sid.
    one-turned at (view calls sid) (own sid answered) merged more answers others (get old.sessions.slab sid)
    (session_at new.sessions sid) (h.each sid) (adds-own calls at sid merged answers answered long all)
    (λ s found. subst (λ n. n ≤ line_count s)
    (sym (count-mapped sid answered ∙ ap (taken_of sid) turn.whose))
    (taken-few sid most old.sessions.slab s turn.taken found turn.lines)) (turn.all sid) in
    record {
      merged = more;
      answers = others;
      are = record {
        are_merged = record {
          before = merged;
          was = h.are_merged;
          sids = keys old.sessions.slab;
          opens = open-keys table calls old merged answers h;
          lines = lines_in calls at answered;
          are = subst (λ ws. AllZip (IsMergedAs calls at) (turn_lines most ws) (lines_in calls at answered))
              (sym (waiting-same table calls old merged answers h))
              (subst (AllZip (IsMergedAs calls at) (turn_lines most (waiting_of old.sessions))) lines
              (merged-as calls at (turn_lines most (waiting_of old.sessions)) turn.taken turn.lines));
          whole = refl;
        };
        answered = answered-append [] table merged (lines_in calls at answered) answers (says answered) old.table
            new.table h.answered
            (subst (λ ls. AreAnsweredAfter merged old.table ls (says answered) new.table) lines
            (lines-answered calls at (name_at old.sessions) merged turn.taken new.table
            (names-are table calls old merged answers h) opens old.table turn.replies turn.batch.entries (says answered)
            turn.batch.answered turn.answers));
        begun = All-append (λ m. m.session ≤ begun_count calls) merged (lines_in calls at answered) h.begun
            (All-map (λ m. m.session ≤ begun_count calls) (λ (a : Answered). merged_of calls at a.taken) answered
            (λ k d within. which-begun (get_or answered k d).taken.sid calls));
        each = each;
        past = λ session.
            past-turned calls at session merged answers answered new.sessions long all each (h.past session);
      };
    }

-- ---- any calls

step : (table : TableState) (call : Call) (calls : List Call) (old new : HubState) → HoldSome table calls old →
    Steps old call new → HoldSome table (call ∷ calls) new
step table (Connected sid) calls old new h s = record {
  merged = h.merged;
  answers = h.answers;
  are = holds-connected table calls sid old new h.merged h.answers h.are s.1 s.2;
}
step table (Closed sid) calls old new h s = record {
  merged = h.merged;
  answers = h.answers;
  are = holds-closed table calls sid old new h.merged h.answers h.are s.0 s.1;
}
step table (Fed sid piece) calls old new h s = record {
  merged = h.merged;
  answers = h.answers;
  are = holds-fed table calls sid piece old new h.merged h.answers s.0 h.are s.1 s.2 s.3 s.4;
}
step table (Turned at most) calls old new h s = holds-turned table calls at most old new h.merged h.answers h.are s
step table (Given sid answer) calls old new h s = record {
  merged = h.merged;
  answers = h.answers;
  are = holds-given table calls sid answer old new h.merged h.answers s.0 h.are s.1 s.2 s.3 s.4;
}

hold : (table : TableState) (calls : List Call) (s : HubState) → Leads table calls s → HoldSome table calls s
hold table [] s leads = record { merged = []; answers = []; are = holds-none table s leads.0 leads.1 }
hold table (call ∷ calls) s leads =
    let before : HoldSome table calls leads.0 = hold table calls leads.0 leads.2 in
    let after : HoldSome table (call ∷ calls) leads.1 = step table call calls leads.0 leads.1 before leads.3 in
    record {
      merged = after.merged;
      answers = after.answers;
      are = holds-stays table (call ∷ calls) leads.1 s after.merged after.answers after.are leads.4;
    }

has-text : (calls : List Call) (merged : List Merged) (answers : List Said) (sid : ℕ) (o : Option SessionState) →
    IsOne (view calls sid) merged answers o → HasItsText calls merged answers sid o
has-text calls merged answers sid None is = is
has-text calls merged answers sid (Some s) is = (is.opens, session-text (view calls sid) merged answers s is)

pub law : LawOfSessions
law table calls s leads =
    let h : HoldSome table calls s = hold table calls s leads in
    record {
      merged = h.merged;
      are_merged = h.are.are_merged;
      answers = h.answers;
      answered = h.are.answered;
      each = λ sid. has-text calls h.merged h.answers sid (session_at s.sessions sid) (h.are.each sid);
      past = h.are.past;
    }
