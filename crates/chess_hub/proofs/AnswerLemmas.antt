-- The lines of a turn are answered one after the other, as a batch of commands and lines that ask nothing of the table.
use Rattle.std.proofs.Common.{◌≡◌, ℕ, true, List, [], ◌∷◌, ◌++◌, map, refl, ap, sym, subst, ◌∙◌, append_assoc, append-nil, Option, Some, None}
use Rattle.std.specs.Prelude.{◌==◌, cond}
use Rattle.std.specs.List.{All}
use Rattle.std.specs.Option.{MatchOption}
use Rattle.std.proofs.lemmas.List.Elements.{All-head, All-tail}
use Rattle.rec_codec.specs.declared.record.Entry.{Entry}
use Rattle.chess_entry.specs.declared.commands.Command.{Command}
use Rattle.chess_entry.specs.State.{TableState}
use Rattle.chess_line.specs.declared.lines.Line.{Line}
use Rattle.chess_line.specs.declared.lines.Line.TheVariants.{Called, Act}
use Rattle.chess_answer.specs.declared.reads.Reply.{Reply}
use Rattle.chess_hub.specs.declared.turn.TurnLine.{TurnLine}
use Rattle.chess_hub.specs.Session.{Said, said}
use Rattle.chess_hub.specs.Answers.{alone, given_name, renamed, names_after, asked, commands_of, own_answer, AreAnswers}
use Rattle.chess_store.specs.Batch.{IsAnswered, IsOutcome}
use Rattle.chess_hub.specs.Calls.{Call, is_open, which}
use Rattle.chess_hub.specs.Sessions.{Merged, name_from, AreAnsweredAfter}
use Rattle.chess_hub.proofs.CallLemmas.{same-session}

-- a line that a turn at a moment took, as it stands in the merged list
abbrev pub merged_of : List Call → ℕ → TurnLine → Merged
merged_of calls at t = record { session = which t.sid calls; at = at; line = t.line }

abbrev pub AllOpen : List Call → List TurnLine → Type 0
AllOpen calls taken = All (λ t. is_open t.sid calls ≡ true) taken

-- ---- names

pub name_from-append : (session : ℕ) (name : Option (List ℕ)) (xs ys : List Merged) →
    name_from session name (xs ++ ys) ≡ name_from session (name_from session name xs) ys
name_from-append session name [] ys = refl
name_from-append session name (x ∷ xs) ys =
    name_from-append session (cond (x.session == session) (renamed (given_name x.at x.line) name) name) xs ys

-- the names of the open sessions are those that merged lines gave
abbrev pub AreNames : List Call → List Merged → (ℕ → Option (List ℕ)) → Type 0
AreNames calls merged names =
    (sid : ℕ) → is_open sid calls ≡ true → names sid ≡ name_from (which sid calls) None merged

names-step : (calls : List Call) (at : ℕ) (before : List Merged) (names : ℕ → Option (List ℕ)) (t : TurnLine) →
    is_open t.sid calls ≡ true → AreNames calls before names →
    AreNames calls (before ++ merged_of calls at t ∷ []) (names_after at names t)
names-step calls at before names t opens are sid other =
    ap (λ name. cond (t.sid == sid) (renamed (given_name at t.line) name) name) (are sid other)
    ∙ ap (λ b. cond b (renamed (given_name at t.line) (name_from (which sid calls) None before))
    (name_from (which sid calls) None before)) (sym (same-session calls t.sid sid opens))
    ∙ sym (name_from-append (which sid calls) None before (merged_of calls at t ∷ []))

-- ---- answers

pub answered-append : (before : List Merged) (table : TableState) (xs ys : List Merged) (ps qs : List Said)
    (between after : TableState) → AreAnsweredAfter before table xs ps between →
    AreAnsweredAfter (before ++ xs) between ys qs after → AreAnsweredAfter before table (xs ++ ys) (ps ++ qs) after
answered-append before table [] ys ps qs between after h k =
    subst (λ zs. AreAnsweredAfter before table ys (zs ++ qs) after) (sym h.0)
    (subst (λ t. AreAnsweredAfter before t ys qs after) h.1
    (subst (λ zs. AreAnsweredAfter zs between ys qs after) (append-nil before) k))
answered-append before table (x ∷ xs) ys ps qs between after h k = (
  h.0,
  h.1 ++ qs,
  h.2,
  ap (λ zs. zs ++ qs) h.3,
  h.4,
  answered-append (before ++ x ∷ []) h.2 xs ys h.1 qs between after h.5
      (subst (λ zs. AreAnsweredAfter zs between ys qs after) (sym (append_assoc before (x ∷ []) xs)) k),
)

-- The answers to lines, the first of which is this one: to a line that asks something of the table the first reply.
abbrev pub FirstAnswer : Option (List ℕ) → (List Said → List Said → Type 0) → List Said → List Said → Type 0
FirstAnswer own Rest replies answers =
    MatchOption own
    ((reply : Said) × (others : List Said) × (rest : List Said)
    × (replies ≡ reply ∷ others) × (answers ≡ reply ∷ rest) × Rest others rest)
    (λ line. (rest : List Said) × (answers ≡ alone line ∷ rest) × Rest replies rest)

-- what is shown of the lines after the first
abbrev pub Later : ℕ → List Command → List TurnLine → List Merged → List Merged → TableState → Type 0
Later at commands taken before merged after =
    (table : TableState) (replies : List Reply) (entries : List Entry) (answers : List Said) →
    IsAnswered table commands replies entries after → AreAnswers at taken (map said replies) answers →
    AreAnsweredAfter before table merged answers after

first-answered : (at session sid : ℕ) (line : Option Line) (name : Option (List ℕ)) (commands : List Command)
    (taken : List TurnLine) (before merged : List Merged) (table after : TableState) (replies : List Reply)
    (entries : List Entry) (answers : List Said) → name ≡ name_from session None before →
    IsAnswered table (asked at name line ++ commands) replies entries after →
    FirstAnswer (own_answer at line) (AreAnswers at taken) (map said replies) answers →
    Later at commands taken (before ++ record { session = session; at = at; line = line } ∷ []) merged after →
    AreAnsweredAfter before table (record { session = session; at = at; line = line } ∷ merged) answers after
first-answered at session sid (Some (Act act)) name commands taken before merged table after [] entries answers is h k
    later = absurd h
first-answered at session sid (Some (Act act)) name commands taken before merged table after (reply ∷ replies) entries
    answers is h k later =
    let first : said reply ≡ k.0 = (let e : said reply ∷ map said replies ≡ k.0 ∷ k.1 = k.3 in cc) in
    let others : map said replies ≡ k.1 = (let e : said reply ∷ map said replies ≡ k.0 ∷ k.1 = k.3 in cc) in (
      k.0,
      k.2,
      h.between,
      k.4,
      (
        reply,
        h.first,
        subst (λ who. IsOutcome table (record { at = at; who = who; act = act }) reply h.first h.between) is h.outcome,
        sym first,
      ),
      later h.between replies h.others k.2 h.rest (subst (λ rs. AreAnswers at taken rs k.2) (sym others) k.5),
    )
first-answered at session sid (Some (Called given)) name commands taken before merged table after replies entries
    answers is h k later = (
      _,
      k.0,
      table,
      k.1,
      (refl, refl, refl),
      later table replies entries k.0 h k.2,
    )
first-answered at session sid None name commands taken before merged table after replies entries answers is h k
    later = (
      _,
      k.0,
      table,
      k.1,
      (refl, refl, refl),
      later table replies entries k.0 h k.2,
    )

-- none is left
none-answered : (at : ℕ) (before : List Merged) (table after : TableState) (replies : List Reply) (entries : List Entry)
    (answers : List Said) → IsAnswered table [] replies entries after → AreAnswers at [] (map said replies) answers →
    AreAnsweredAfter before table [] answers after
none-answered at before table after [] entries answers h k = (k.1, h.same)
none-answered at before table after (reply ∷ replies) entries answers h k = absurd h

pub lines-answered : (calls : List Call) (at : ℕ) (names : ℕ → Option (List ℕ)) (before : List Merged)
    (taken : List TurnLine) (after : TableState) → AreNames calls before names → AllOpen calls taken →
    Later at (commands_of at names taken) taken before (map (merged_of calls at) taken) after
lines-answered calls at names before [] after are opens table replies entries answers h k =
    none-answered at before table after replies entries answers h k
lines-answered calls at names before (t ∷ taken) after are opens table replies entries answers h k =
    let here : is_open t.sid calls ≡ true = All-head (λ t. is_open t.sid calls ≡ true) t taken opens in
    first-answered at (which t.sid calls) t.sid t.line (names t.sid) (commands_of at (names_after at names t) taken)
    taken before (map (merged_of calls at) taken) table after replies entries answers (are t.sid here) h k
    (lines-answered calls at (names_after at names t) (before ++ merged_of calls at t ∷ []) taken after
    (names-step calls at before names t here are) (All-tail (λ t. is_open t.sid calls ≡ true) t taken opens))
