-- One session alone, and its lines one after the other.
use Rattle.std.proofs.Common.{◌≡◌, ℕ, zero, suc, ◌<◌, ◌+◌, true, false, List, [], ◌∷◌, ◌++◌, length, sym, refl, ap, ◌∙◌, subst, arith, append-nil, Option, None, Some, Result, Ok, Err, OnOk, IfErr}
use Rattle.std.specs.Prelude.{◌↔◌, IsErrOf, ◌≢◌, Bool, cond, map, option_map, is_some, IsSome, IfSome, IsSomeAnd, slice_index_or}
use Rattle.std.proofs.lemmas.Bool.{eq-eqb, false≢true}
use Rattle.std.proofs.lemmas.List.Elements.{All-head, All-tail}
use Rattle.std.specs.Option.{MatchOption}
use Rattle.std.specs.Io.BufRead.{strip_last}
use Rattle.slab.specs.Slab.{get, entries_from, entries}
use Rattle.text_lines.specs.Lines.{is_feed, HasNoFeed, IsUnfinished, lines_of, has_long_line}
use Rattle.text_lines.specs.Heard.{Heard, heard, heard_more}
use Rattle.text_lines.proofs.LineLemmas.{lines-feed, lines-rest, long-feed, long-rest}
use Rattle.text_lines.proofs.Wholes.{kept-feed, kept-rest, unfinished-none}
use Rattle.rec_codec.specs.declared.record.Entry.{Entry}
use Rattle.chess_entry.specs.State.{TableState}
use Rattle.chess_entry.specs.declared.commands.Command.{Command}
use Rattle.chess_line.specs.declared.lines.Line.{Line}
use Rattle.chess_line.specs.declared.lines.Line.TheVariants.{Called, Act}
use Rattle.chess_answer.specs.declared.reads.Reply.{Reply}
use Rattle.chess_hub.specs.declared.sessions.Session.{Session}
use Rattle.chess_hub.specs.declared.sessions.Sessions.{Sessions}
use Rattle.chess_hub.specs.declared.turn.TurnLine.{TurnLine}
use Rattle.chess_hub.specs.Session.{Said, said, SessionState, shown, session_at, Changes, first_due, due, given_one}
use Rattle.chess_hub.specs.Turn.{Waiting, waiting, waiting_of, SessionLine, session_line, turn_lines, IsReading, IsTurnLine, AreTurnLines}
use Rattle.chess_hub.specs.Answers.{given_name, renamed, own_answer, alone, asked, commands_of, AreAnswers, name_of, name_at}
use Rattle.chess_hub.specs.Delivery.{Answered, AllAnswered, HasAnswered, DropsLine, own}
use Rattle.chess_store.specs.Batch.{IsOutcome, IsAnswered, AreAnswered}
use Rattle.chess_hub.specs.declared.fault.HubFault.{HubFault}
use Rattle.chess_hub.specs.declared.fault.HubFault.TheVariants.{Busy, NoMemory, LineTooLong, Store}
use Rattle.chess_hub.specs.Faults.{IsFeedFault}
use Rattle.chess_hub.specs.Turning.{MayBeAsked, HasTurned, AsksFor, IsTurnFault, Kept}
use Rattle.chess_store.specs.declared.fault.StoreFault.{StoreFault}
use Rattle.sector_dev.specs.Device.{State, measures}
use Rattle.chess_store.specs.Means.{IsKept}
use Rattle.chess_hub.specs.Turning.{AreRefused, TurnLasts, TurnTried}
use Rattle.chess_hub.specs.Sessions.{IsLineAnswered}
use Rattle.chess_hub.specs.Running.{written, stands, Serves, AnswersLine, RefusesLine, IsAlone, waits, IsTalking, asks, IsTold, LineAsksFor}
use Rattle.chess_hub.proofs.RunLemmas.{none-of}
use Rattle.chess_hub.specs.Law.{state_of}

-- ---- a session that is alone

pub at-some : {X : Type 0} (o : Option X) (v : X) (P : X → Type 0) → o ≡ Some v → IfSome o P → P v
at-some o v P e h = subst (λ (x : Option _). IfSome x P) e h

pub at-some-and : {X : Type 0} (o : Option X) (v : X) (A : Type 0) (P : X → Type 0) → o ≡ Some v → MatchOption o A P → P v
at-some-and o v A P e h = subst (λ (x : Option _). MatchOption x A P) e h

pub alone-open : (s : Sessions) (sid : ℕ) (state : SessionState) → IsAlone s sid state → IsSome (session_at s sid)
alone-open s sid state h = ap is_some h.one

pub alone-changes : (old new : Sessions) (sid : ℕ) (s t : SessionState) → IsAlone old sid s →
    Changes old new sid (Some t) → IsAlone new sid t
alone-changes old new sid s t h c = record {
  one = c.changed;
  alone = λ other ne. c.others other ne ∙ h.alone other ne;
}

-- a session that began where there was none
pub alone-first : (old new : Sessions) (sid : ℕ) (t : SessionState) → ((other : ℕ) → session_at old other ≡ None) →
    Changes old new sid (Some t) → IsAlone new sid t
alone-first old new sid t none c = record {
  one = c.changed;
  alone = λ other ne. c.others other ne ∙ none other;
}

pub alone-name : (s : Sessions) (sid : ℕ) (state : SessionState) → IsAlone s sid state → name_at s sid ≡ state.name
alone-name s sid state h = ap name_of h.one

-- it sends a line, and then the line feed
pub hears-part : (part : List ℕ) → IsUnfinished part → heard_more (heard [] false) part ≡ heard part false
hears-part part u = ap (λ (x : List ℕ). heard x (has_long_line part)) (kept-rest part u)
    ∙ ap (λ (b : Bool). heard part b) (long-rest part u)

pub hears-feed : (part : List ℕ) → IsUnfinished part →
    heard_more (heard part false) (10 ∷ []) ≡ heard (part ++ 10 ∷ []) false
hears-feed part u =
    ap (λ (x : List ℕ). heard x (has_long_line (part ++ 10 ∷ [])))
    (kept-feed part [] u ∙ ap (λ (x : List ℕ). part ++ 10 ∷ x) (kept-rest [] unfinished-none))
    ∙ ap (λ (b : Bool). heard (part ++ 10 ∷ []) b) (long-feed part [] u ∙ long-rest [] unfinished-none)

-- it has sent a line, without its line feed
abbrev pub began : Option (List ℕ) → List ℕ → SessionState
began name part = record { name = name; heard = heard part false; answers = []; has_left = false }

pub heard-first : (old mid : Sessions) (sid : ℕ) (part : List ℕ) → IsUnfinished part → IsTalking old sid →
    IfSome (session_at old sid) (λ (s : SessionState).
    Changes old mid sid (Some (record s { heard = heard_more s.heard part }))) →
    IsAlone mid sid (began (name_at old sid) part)
heard-first old mid sid part u (name, h) fed =
    let changes = at-some (session_at old sid) (waits name) (λ (s : SessionState).
    Changes old mid sid (Some (record s { heard = heard_more s.heard part }))) h.one fed in
    let here = alone-changes old mid sid (waits name) (record (waits name) { heard = heard_more (heard [] false) part })
    h changes in
    subst (λ (n : Option (List ℕ)). IsAlone mid sid (began n part)) (sym (alone-name old sid (waits name) h))
    (subst (λ (x : Heard). IsAlone mid sid (record (waits name) { heard = x })) (hears-part part u) here)

pub heard-second : (mid new : Sessions) (sid : ℕ) (name : Option (List ℕ)) (part : List ℕ)
    (result : Result (Unit {0}) HubFault) → IsUnfinished part → IsAlone mid sid (began name part) →
    IfSome (session_at mid sid) (λ (s : SessionState).
    OnOk result (Changes mid new sid (Some (record s { heard = heard_more s.heard (10 ∷ []) })))) →
    OnOk result (IsAlone new sid (asks name part))
heard-second mid new sid name part (Ok done) u h fed =
    let changes = at-some (session_at mid sid) (began name part) (λ (s : SessionState).
    Changes mid new sid (Some (record s { heard = heard_more s.heard (10 ∷ []) }))) h.one fed in
    subst (λ (x : Heard). IsAlone new sid (record (began name part) { heard = x })) (hears-feed part u)
    (alone-changes mid new sid (began name part) (record (began name part) { heard = heard_more (heard part false) (10 ∷ []) })
    h changes)
heard-second mid new sid name part (Err fault) u h fed = tt

-- only memory can be refused to it
none-if : (result : Result (Unit {0}) HubFault) (long : Bool) → IfErr result IsFeedFault →
    (IsErrOf result LineTooLong ↔ (long ≡ true)) → long ≡ false → IfErr result (λ fault. fault ≡ NoMemory)
none-if (Ok done) long known iff short = tt
none-if (Err LineTooLong) long known iff short = absurd (false≢true (sym short ∙ iff.0 refl))
none-if (Err NoMemory) long known iff short = refl
none-if (Err Busy) long known iff short = absurd known
none-if (Err (Store fault)) long known iff short = absurd known

pub hears-or-none : (s : Sessions) (sid : ℕ) (state : SessionState) (result : Result (Unit {0}) HubFault) →
    IsAlone s sid state → state.heard.is_long ≡ false → IfErr result IsFeedFault →
    IfSome (session_at s sid) (λ (s : SessionState). IsErrOf result LineTooLong ↔ (s.heard.is_long ≡ true)) →
    IfErr result (λ fault. fault ≡ NoMemory)
hears-or-none s sid state result h short known long =
    none-if result state.heard.is_long known (at-some (session_at s sid) state (λ (s : SessionState).
    IsErrOf result LineTooLong ↔ (s.heard.is_long ≡ true)) h.one long) short

-- ---- the lines of a turn

some-of : (o : Option Session) (state : SessionState) → option_map shown o ≡ Some state →
    (x : Session) × (o ≡ Some x) × (shown x ≡ state)
some-of None state e = absurd (let bad : None ≡ Some state = e in cc)
some-of (Some x) state e = (x, refl, (let same : Some (shown x) ≡ Some state = e in cc))

module _ {T : Type 0} where
  entries-none : (key : ℕ) (slots : List (Option T)) → ((i : ℕ) → slice_index_or slots i None ≡ None) →
      entries_from key slots ≡ []
  entries-none key [] h = refl
  entries-none key (None ∷ slots) h = entries-none (key + 1) slots (λ i. h (suc i))
  entries-none key (Some v ∷ slots) h = absurd (let bad : Some v ≡ None = h 0 in cc)

  entries-one : (key : ℕ) (slots : List (Option T)) (i : ℕ) (v : T) → slice_index_or slots i None ≡ Some v →
      ((j : ℕ) → j ≢ i → slice_index_or slots j None ≡ None) → entries_from key slots ≡ (key + i, v) ∷ []
  entries-one key [] i v e h = absurd (let bad : None ≡ Some v = e in cc)
  entries-one key (None ∷ slots) zero v e h = absurd (let bad : None ≡ Some v = e in cc)
  entries-one key (None ∷ slots) (suc i) v e h =
      entries-one (key + 1) slots i v e (λ j ne. h (suc j) (λ same. ne (omega (arith, same))))
      ∙ ap (λ (k : ℕ). (k, v) ∷ []) (omega arith)
  entries-one key (Some x ∷ slots) zero v e h =
      let same : x ≡ v = (let f : Some x ≡ Some v = e in cc) in
      ap (λ (es : List (ℕ × T)). (key, x) ∷ es)
      (entries-none (key + 1) slots (λ i. h (suc i) (λ bad. omega (arith, bad))))
      ∙ ap (λ (y : T). (key, y) ∷ []) same ∙ ap (λ (k : ℕ). (k, v) ∷ []) (omega arith)
  entries-one key (Some x ∷ slots) (suc i) v e h =
      absurd (let bad : Some x ≡ None = h 0 (λ same. omega (arith, same)) in cc)

abbrev one_waiting : ℕ → List (List ℕ) → List Waiting
one_waiting sid lines = record { sid = sid; lines = lines } ∷ []

waiting-one : (s : Sessions) (sid : ℕ) (state : SessionState) → IsAlone s sid state →
    waiting_of s ≡ one_waiting sid (lines_of state.heard.bytes)
waiting-one s sid state h =
    let (x, found, is) = some-of (get s.slab sid) state h.one in
    let one : entries s.slab ≡ (0 + sid, x) ∷ [] =
    entries-one 0 s.slab.slots sid x found (λ other ne. none-of (get s.slab other) (h.alone other ne)) in
    let here : 0 + sid ≡ sid = omega arith in
    ap (map waiting) (one ∙ ap (λ (k : ℕ). (k, x) ∷ []) here)
    ∙ ap (λ (state : SessionState). one_waiting sid (lines_of state.heard.bytes)) is

turn-one : (sid : ℕ) (line : List ℕ) → turn_lines 1 (one_waiting sid (line ∷ [])) ≡ session_line sid line ∷ []
turn-one sid line = refl

pub lines-one : (s : Sessions) (sid : ℕ) (name : Option (List ℕ)) (part : List ℕ) → IsUnfinished part →
    IsAlone s sid (asks name part) → turn_lines 1 (waiting_of s) ≡ session_line sid (strip_last 13 part) ∷ []
lines-one s sid name part u h =
    ap (turn_lines 1) (waiting-one s sid (asks name part) h)
    ∙ ap (λ (lines : List (List ℕ)). turn_lines 1 (one_waiting sid lines))
    (lines-feed part [] u ∙ ap (λ (lines : List (List ℕ)). strip_last 13 part ∷ lines) (lines-rest [] unfinished-none))
    ∙ turn-one sid (strip_last 13 part)

taken-one : (line : SessionLine) (taken : List TurnLine) → AreTurnLines (line ∷ []) taken →
    (t : TurnLine) × (taken ≡ t ∷ []) × IsTurnLine line t
taken-one line [] h = absurd h
taken-one line (t ∷ []) h = (t, refl, h.0)
taken-one line (t ∷ u ∷ taken) h = absurd h.1

answered-one : (t : TurnLine) (answered : List Answered) → map (λ a. a.taken) answered ≡ t ∷ [] →
    (a : Answered) × (answered ≡ a ∷ []) × (a.taken ≡ t)
answered-one t [] h = absurd (let bad : [] ≡ t ∷ [] = h in cc)
answered-one t (a ∷ []) h = (a, refl, (let same : a.taken ∷ [] ≡ t ∷ [] = h in cc))
answered-one t (a ∷ b ∷ answered) h =
    absurd (let bad : a.taken ∷ b.taken ∷ map (λ a. a.taken) answered ≡ t ∷ [] = h in cc)

head-same : (x y : Said) (xs ys : List Said) → x ∷ xs ≡ y ∷ ys → x ≡ y
head-same x y xs ys e = cc

-- the answer to the one line of a batch that asks nothing of the table
answered-alone : (t : TurnLine) (at : ℕ) (read : Option Line) (line : List ℕ) (answer : Said) → t.line ≡ read →
    own_answer at read ≡ Some line → AreAnswers at (t ∷ []) [] (answer ∷ []) →
    (own_answer at read ≡ Some answer.line) × (answer.body ≡ [])
answered-alone t at read line answer is own k =
    let found = subst (λ (o : Option (List ℕ)). MatchOption o
    ((r : Said) × (others : List Said) × (rest : List Said) × ([] ≡ r ∷ others)
    × (answer ∷ [] ≡ r ∷ rest) × AreAnswers at [] others rest)
    (λ l. (rest : List Said) × (answer ∷ [] ≡ alone l ∷ rest) × AreAnswers at [] [] rest))
    (ap (own_answer at) is ∙ own) k in
    let (rest, first, none) = found in
    let same = head-same answer (alone line) [] rest first in
    (own ∙ ap (λ (a : Said). Some a.line) (sym same), ap (λ (a : Said). a.body) same)

-- the answer to the one line of a batch
line-answered : (t : TurnLine) (at : ℕ) (name : Option (List ℕ)) (read : Option Line) (before after : TableState)
    (replies : List Reply) (entries : List Entry) (answer : Said) → t.line ≡ read →
    IsAnswered before (asked at name read ++ []) replies entries after →
    AreAnswers at (t ∷ []) (map said replies) (answer ∷ []) → IsLineAnswered before name at read answer after
line-answered t at name (Some (Act act)) before after [] entries answer is h k = absurd h
line-answered t at name (Some (Act act)) before after (reply ∷ []) entries answer is h k =
    let found = subst (λ (line : Option Line). MatchOption (own_answer at line)
    ((r : Said) × (others : List Said) × (rest : List Said) × (said reply ∷ [] ≡ r ∷ others)
    × (answer ∷ [] ≡ r ∷ rest) × AreAnswers at [] others rest)
    (λ l. (rest : List Said) × (answer ∷ [] ≡ alone l ∷ rest) × AreAnswers at [] (said reply ∷ []) rest)) is k in
    let (r, others, rest, first, second, none) = found in (
      reply,
      h.first,
      subst (λ (x : TableState). IsOutcome before (record { at = at; who = name; act = act }) reply h.first x)
          (sym h.rest.same) h.outcome,
      head-same answer r [] rest second ∙ sym (head-same (said reply) r [] others first),
    )
line-answered t at name (Some (Act act)) before after (reply ∷ more ∷ replies) entries answer is h k = absurd h.rest
line-answered t at name (Some (Called given)) before after [] entries answer is h k =
    let told = answered-alone t at (Some (Called given)) _ answer is refl k in (told.0, told.1, h.same)
line-answered t at name (Some (Called given)) before after (reply ∷ replies) entries answer is h k = absurd h
line-answered t at name None before after [] entries answer is h k =
    let told = answered-alone t at None _ answer is refl k in (told.0, told.1, h.same)
line-answered t at name None before after (reply ∷ replies) entries answer is h k = absurd h

-- ---- the line is taken

-- bytes are cut at their first line feed in one way
cut-once : (p q m : List ℕ) → HasNoFeed p → HasNoFeed q → p ++ 10 ∷ m ≡ q ++ 10 ∷ [] → m ≡ []
cut-once [] [] m h k e = let f : 10 ∷ m ≡ 10 ∷ [] = e in cc
cut-once [] (y ∷ q) m h k e =
    absurd (let f : 10 ∷ m ≡ y ∷ (q ++ 10 ∷ []) = e in
    let same : 10 ≡ y = cc in
    let no : is_feed y ≡ false = All-head (λ b. is_feed b ≡ false) y q k in
    let yes : is_feed y ≡ true = eq-eqb y 10 (sym same) in
    false≢true (sym no ∙ yes))
cut-once (x ∷ p) [] m h k e =
    absurd (let f : x ∷ (p ++ 10 ∷ m) ≡ 10 ∷ [] = e in
    let same : x ≡ 10 = cc in
    let no : is_feed x ≡ false = All-head (λ b. is_feed b ≡ false) x p h in
    let yes : is_feed x ≡ true = eq-eqb x 10 same in
    false≢true (sym no ∙ yes))
cut-once (x ∷ p) (y ∷ q) m h k e =
    let f : x ∷ (p ++ 10 ∷ m) ≡ y ∷ (q ++ 10 ∷ []) = e in
    let rest : p ++ 10 ∷ m ≡ q ++ 10 ∷ [] = cc in
    cut-once p q m (All-tail (λ b. is_feed b ≡ false) x p h) (All-tail (λ b. is_feed b ≡ false) y q k) rest

heard-is : (h : Heard) → h.bytes ≡ [] → h.is_long ≡ false → h ≡ heard [] false
heard-is h bytes long =
    subst (λ (b : Bool). h ≡ heard [] b) long (subst (λ (x : List ℕ). h ≡ heard x h.is_long) bytes refl)

drops-one : (part : List ℕ) (new : Heard) → IsUnfinished part → DropsLine (heard (part ++ 10 ∷ []) false) new →
    new ≡ heard [] false
drops-one part new u h =
    let lines : lines_of (part ++ 10 ∷ []) ≡ strip_last 13 part ∷ [] =
    lines-feed part [] u ∙ ap (λ (x : List (List ℕ)). strip_last 13 part ∷ x) (lines-rest [] unfinished-none) in
    let some : 0 < length (lines_of (part ++ 10 ∷ [])) = subst (λ (x : List (List ℕ)). 0 < length x) (sym lines)
    (omega arith) in
    let (line, first) = h.taken some in
    heard-is new (cut-once first.part part new.bytes first.unfinished.no_feed u.no_feed (sym first.cut)) h.long

state-is : (s : SessionState) (name : Option (List ℕ)) (h : Heard) (answers : List Said) (left : Bool) →
    s.name ≡ name → s.heard ≡ h → s.answers ≡ answers → s.has_left ≡ left →
    s ≡ record { name = name; heard = h; answers = answers; has_left = left }
state-is s name h answers left e f g k =
    subst (λ (x : Bool). s ≡ record { name = name; heard = h; answers = answers; has_left = x }) k
    (subst (λ (x : List Said). s ≡ record { name = name; heard = h; answers = x; has_left = s.has_left }) g
    (subst (λ (x : Heard). s ≡ record { name = name; heard = x; answers = s.answers; has_left = s.has_left }) f
    (subst (λ (x : Option (List ℕ)). s ≡ record { name = x; heard = s.heard; answers = s.answers; has_left = s.has_left })
    e refl)))

-- the session after the turn: the answer is to be given to it
abbrev pub told : Option (List ℕ) → Said → SessionState
told name answer = record { name = name; heard = heard [] false; answers = answer ∷ []; has_left = false }

some-and : {X : Type 0} (o : Option X) (P : X → Type 0) → IsSomeAnd o P → (x : X) × (o ≡ Some x) × P x
some-and None P h = absurd h
some-and (Some x) P h = (x, refl, h)

none-and : {X : Type 0} (o : Option X) (A : Type 0) (P : X → Type 0) → o ≡ None → MatchOption o A P → A
none-and o A P e h = subst (λ (x : Option _). MatchOption x A P) e h

own-one : (a : Answered) (sid : ℕ) → a.taken.sid ≡ sid → own sid (a ∷ []) ≡ a ∷ []
own-one a sid e = ap (λ (t : Bool). cond t (a ∷ []) []) (eq-eqb a.taken.sid sid e)

turned-one : (at sid : ℕ) (name : Option (List ℕ)) (part : List ℕ) (old new : Sessions) (a : Answered) →
    IsUnfinished part → IsAlone old sid (asks name part) → a.taken.sid ≡ sid → AllAnswered at (a ∷ []) old new →
    IsAlone new sid (told (renamed (given_name at a.taken.line) name) a.said)
turned-one at sid name part old new a u h e all =
    let one = some-and (session_at new sid) (HasAnswered at (own sid (a ∷ [])) (asks name part))
    (at-some-and (session_at old sid) (asks name part) (session_at new sid ≡ None)
    (λ s. IsSomeAnd (session_at new sid) (HasAnswered at (own sid (a ∷ [])) s)) h.one (all sid)) in
    let (s, found, answered) = one in
    let has : HasAnswered at (a ∷ []) (asks name part) s = subst (λ (xs : List Answered).
    HasAnswered at xs (asks name part) s) (own-one a sid e) answered in
    let (between, same, drops) = has.heard in
    let heard_now = drops-one part s.heard u (subst (λ (x : Heard). DropsLine x s.heard) same drops) in
    record {
      one = found ∙ ap (λ (x : SessionState). Some x) (state-is s (renamed (given_name at a.taken.line) name)
          (heard [] false) (a.said ∷ []) false has.name heard_now has.answers has.left);
      alone = λ other ne. none-and (session_at old other) (session_at new other ≡ None)
          (λ s. IsSomeAnd (session_at new other) (HasAnswered at (own other (a ∷ [])) s)) (h.alone other ne) (all other);
    }

-- what a turn does for the one session
pub record Turned (at : ℕ) (name : Option (List ℕ)) (text : List ℕ) (before after : TableState) (new : Sessions)
    (sid : ℕ) : Type 0 where
  pub read : Option Line
  pub reads : IsReading text read
  pub answer : Said
  pub answered : IsLineAnswered before name at read answer after
  pub then : IsAlone new sid (told (renamed (given_name at read) name) answer)

module _ (at sid : ℕ) (name : Option (List ℕ)) (part : List ℕ) (old : Sessions) (u : IsUnfinished part)
    (h : IsAlone old sid (asks name part)) where
  one-taken : (taken : List TurnLine) → AreTurnLines (turn_lines 1 (waiting_of old)) taken →
      (t : TurnLine) × (taken ≡ t ∷ []) × IsTurnLine (session_line sid (strip_last 13 part)) t
  one-taken taken lines = taken-one (session_line sid (strip_last 13 part)) taken
      (subst (λ (ls : List SessionLine). AreTurnLines ls taken) (lines-one old sid name part u h) lines)

  named : (t : TurnLine) → t.sid ≡ sid → name_at old t.sid ≡ name
  named t e = ap (name_at old) e ∙ alone-name old sid (asks name part) h

  pub turned-told : (new : Sessions) (before after : TableState) → HasTurned at 1 old new before after →
      Turned at name (strip_last 13 part) before after new sid
  turned-told new before after turn =
      let (t, same, is) = one-taken turn.taken turn.lines in
      let (a, one, whose) = answered-one t turn.answered (turn.whose ∙ same) in
      let batch = subst (λ (ts : List TurnLine).
      AreAnswered before (commands_of at (name_at old) ts) turn.replies after)
      same turn.batch in
      let answered = subst (λ (who : Option (List ℕ)). IsAnswered before (asked at who t.line ++ []) turn.replies
      batch.entries after) (named t is.sid) batch.answered in
      let taken_answers = subst (λ (ts : List TurnLine). AreAnswers at ts (map said turn.replies)
      (map (λ a. a.said) turn.answered)) same turn.answers in
      let answers = subst (λ (xs : List Answered). AreAnswers at (t ∷ []) (map said turn.replies)
      (map (λ a. a.said) xs)) one taken_answers in
      let all = subst (λ (xs : List Answered). AllAnswered at xs old new) one turn.all in
      let line : a.taken.line ≡ t.line = ap (λ (x : TurnLine). x.line) whose in
      record {
        read = t.line;
        reads = is.reads;
        answer = a.said;
        answered = line-answered t at name t.line before after turn.replies batch.entries a.said refl answered answers;
        then = subst (λ (x : Option Line). IsAlone new sid (told (renamed (given_name at x) name) a.said)) line
            (turned-one at sid name part old new a u h (ap (λ (x : TurnLine). x.sid) whose ∙ is.sid) all);
      }

  pub asks-line : (P : List Command → Type 0) → AsksFor at 1 old P → LineAsksFor at name (strip_last 13 part) P
  asks-line P asks =
      let (t, same, is) = one-taken asks.taken asks.lines in
      record {
        read = t.line;
        reads = is.reads;
        those = subst (λ (who : Option (List ℕ)). P (asked at who t.line)) (named t is.sid)
            (subst P (append-nil (asked at (name_at old t.sid) t.line))
            (subst (λ (ts : List TurnLine). P (commands_of at (name_at old) ts)) same asks.those));
      }

-- ---- the answer is given

pub fault-map : (fault : HubFault) (Same : Type 0) (P Q : StoreFault → Type 0) → ((refused : StoreFault) → P refused
    → Q refused) → IsTurnFault fault Same P → IsTurnFault fault Same Q
fault-map Busy Same P Q more is = is
fault-map NoMemory Same P Q more is = is
fault-map LineTooLong Same P Q more is = is
fault-map (Store refused) Same P Q more is = more refused is

-- the answer that is given is that of the line
pub told-is : (at sid : ℕ) (name : Option (List ℕ)) (text : List ℕ) (before after : TableState) (mid new : Sessions)
    (reply : Reply) → Turned at name text before after mid sid →
    IfSome (session_at mid sid) (λ (s : SessionState). Some (said reply) ≡ first_due (due s)) →
    IfSome (session_at mid sid) (λ (s : SessionState). Changes mid new sid (Some (given_one s))) →
    IsTold at name text (said reply) before (state_of new after) sid
told-is at sid name text before after mid new reply turned given changes =
    let state = told (renamed (given_name at turned.read) name) turned.answer in
    let first : Some (said reply) ≡ Some turned.answer = at-some (session_at mid sid) state
    (λ (s : SessionState). Some (said reply) ≡ first_due (due s)) turned.then.one given in
    let same : turned.answer ≡ said reply = cc in
    record {
      read = turned.read;
      reads = turned.reads;
      answered = subst (λ (a : Said). IsLineAnswered before name at turned.read a after) same turned.answered;
      then = alone-changes mid new sid state (given_one state) turned.then (at-some (session_at mid sid) state
          (λ (s : SessionState). Changes mid new sid (Some (given_one s))) turned.then.one changes);
    }

pub told-some : (at sid : ℕ) (name : Option (List ℕ)) (text : List ℕ) (before after : TableState) (mid : Sessions) →
    Turned at name text before after mid sid →
    IfSome (session_at mid sid) (λ (s : SessionState). None ≡ first_due (due s)) → ⊥
told-some at sid name text before after mid turned given =
    let state = told (renamed (given_name at turned.read) name) turned.answer in
    let bad : None ≡ Some turned.answer = at-some (session_at mid sid) state
    (λ (s : SessionState). None ≡ first_due (due s)) turned.then.one given in
    cc

-- ---- what a turn does to the store

module _ {D : Type 0} (state : D → State) (sector_count failures : D → ℕ) (old new : Kept D)
    (given : Result (Unit {0}) HubFault)
    (lasts : IsKept (state old.device) old.header old.compaction old.table
    → TurnLasts given (state old.device) (state new.device) new.header new.compaction old.table new.table)
    (tried : TurnTried (measures state sector_count failures) old new given)
  where
    pub serves-as : (made : Result (Unit {0}) HubFault) → given ≡ made →
        Serves (measures state sector_count failures) old new made
    serves-as made was = subst (λ (r : Result (Unit {0}) HubFault). Serves (measures state sector_count failures) old new r) was
        (record { lasts = lasts; tried = tried })

    pub serves-err : {T : Type 0} (made : Result T HubFault) (fault y : HubFault) → given ≡ Err fault → made ≡ Err y →
        y ≡ fault → IfErr made (λ fault. Serves (measures state sector_count failures) old new (Err fault))
    serves-err {T = T} made fault y was is same =
        subst (λ (r : Result T HubFault). IfErr r (λ fault. Serves (measures state sector_count failures) old new (Err fault)))
        (sym is) (subst (λ (f : HubFault). Serves (measures state sector_count failures) old new (Err f)) (sym same)
        (serves-as (Err fault) was))

-- ---- a line, as the run sees it

module _ {D M : Type 0} (state : D → State) (sector_count failures : D → ℕ) (gives : M → ℕ → M → Type 0)
    (old mid new : Kept D) (name : Option (List ℕ)) (sessions : Sessions) (sid at : ℕ) (m n : M) (line : List ℕ)
    (same : mid ≡ old) where
  pub answers-line : (reply : Reply) → gives m at n →
      IsTold at name line (said reply) mid.table (state_of sessions new.table) sid →
      LineAsksFor at name line (MayBeAsked mid.failed mid.header.seq mid.table.entries) →
      Serves (measures state sector_count failures) mid new (Ok tt) →
      AnswersLine (measures state sector_count failures) gives (stands old name m) line (written (said reply))
      (stands new (name_at sessions sid) n)
  answers-line reply next is works serves =
      let now : IsTold at name line (said reply) old.table (state_of sessions new.table) sid =
      subst (λ (s : Kept D). IsTold at name line (said reply) s.table (state_of sessions new.table) sid) same is in
      record {
        at = at;
        next = next;
        read = now.read;
        reads = now.reads;
        answer = said reply;
        answered = now.answered;
        named = alone-name sessions sid (waits (renamed (given_name at now.read) name)) now.then;
        says = refl;
        works = subst (λ (s : Kept D). LineAsksFor at name line (MayBeAsked s.failed s.header.seq s.table.entries)) same
            works;
        serves = subst (λ (s : Kept D). Serves (measures state sector_count failures) s new (Ok tt)) same serves;
      }

  pub refuses-line : (fault : HubFault) → gives m at n →
      (Same : Type 0) → (Same → new ≡ mid) → IsTurnFault fault Same (λ refused. LineAsksFor at name line
      (AreRefused refused mid.header.seq mid.failed mid.table new.table)) →
      Serves (measures state sector_count failures) mid new (Err fault) →
      RefusesLine (measures state sector_count failures) gives (stands old name m) line fault (stands new (name_at sessions sid) n)
  refuses-line Busy next Same is why serves = why
  refuses-line NoMemory next Same is why serves = is why ∙ same
  refuses-line LineTooLong next Same is why serves = why
  refuses-line (Store fault) next Same is why serves =
      let now : LineAsksFor at name line (AreRefused fault old.header.seq old.failed old.table new.table) =
      subst (λ (s : Kept D). LineAsksFor at name line
      (AreRefused fault s.header.seq s.failed s.table new.table)) same why in
      record {
        at = at;
        next = next;
        read = now.read;
        reads = now.reads;
        refused = now.those;
        serves = subst (λ (s : Kept D). Serves (measures state sector_count failures) s new (Err (Store fault))) same serves;
      }
