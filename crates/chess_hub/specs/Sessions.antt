-- The text of each session: a definition over lists of calls.
use Rattle.std.specs.Prelude.{ℕ, ◌≡◌, ◌==◌, ◌&&◌, Bool, true, if◌then◌else◌, List, [], ◌∷◌, ◌++◌, Option, Some, None}
use Rattle.std.specs.Prelude.{map, filter, drop, count_by, ◌↔◌, Contains}
use Rattle.std.specs.List.{AllZip, zip}
use Rattle.std.specs.List.Sorted.{IsStrictlyIncreasing}
use Rattle.text_lines.specs.Lines.{lines_of, has_long_line}
use Rattle.rec_codec.specs.declared.record.Entry.{Entry}
use Rattle.chess_entry.specs.State.{TableState}
use Rattle.chess_line.specs.declared.lines.Line.{Line}
use Rattle.chess_line.specs.declared.lines.Line.TheVariants.{Called, Act}
use Rattle.chess_answer.specs.declared.reads.Reply.{Reply}
use Rattle.chess_hub.specs.Session.{Said, said, farewell, is_none_waiting}
use Rattle.chess_hub.specs.Turn.{Waiting, SessionLine, turn_lines, IsReading}
use Rattle.chess_hub.specs.Answers.{given_name, renamed, own_answer}
use Rattle.chess_store.specs.Batch.{IsOutcome}
use Rattle.chess_hub.specs.Calls.{Call, Connected, Closed, Fed, Turned, Given, is_open, which, input_of}

-- ---- the merged list

-- a line that a turn took: of which session, at which moment, and what it asks for
pub record Merged : Type 0 where
  pub session : ℕ
  pub at : ℕ
  pub line : Option Line

-- how many lines were taken of a session
abbrev pub taken_count : ℕ → List Merged → ℕ
taken_count session merged = count_by (λ m. m.session == session) merged

-- the whole lines that a session sent, before any that is too long, without those that were taken
abbrev pub lines_left : List Call → List Merged → ℕ → List (List ℕ)
lines_left calls merged session = drop (taken_count session merged) (lines_of (input_of session calls))

abbrev pub waiting_lines : List Call → List Merged → ℕ → Waiting
waiting_lines calls merged sid = record {
  sid = sid;
  lines = lines_left calls merged (which sid calls);
}

-- these are the numbers of the open sessions, by rising number
pub record AreOpenIn (calls : List Call) (sids : List ℕ) : Type 0 where
  pub rising : IsStrictlyIncreasing sids
  pub each : (sid : ℕ) → Contains sids sid ↔ (is_open sid calls ≡ true)

pub record IsMergedAs (calls : List Call) (at : ℕ) (taken : SessionLine) (m : Merged) : Type 0 where
  pub session : m.session ≡ which taken.sid calls
  pub moment : m.at ≡ at
  pub reads : IsReading taken.text m.line

-- What a turn takes: round the open sessions by rising number, one line of each, then the second of each, and so on.
pub record MergesTurn (Before : List Merged → Type 0) (calls : List Call) (at most : ℕ) (merged : List Merged)
    : Type 0 where
  pub before : List Merged
  pub was : Before before
  pub sids : List ℕ
  pub opens : AreOpenIn calls sids
  pub lines : List Merged
  pub are : AllZip (IsMergedAs calls at) (turn_lines most (map (waiting_lines calls before) sids)) lines
  pub whole : merged ≡ before ++ lines

-- the lines of all turns, in the order in which they are answered
abbrev pub AreMerged : List Call → List Merged → Type 0
AreMerged [] merged = merged ≡ []
AreMerged (Connected sid ∷ calls) merged = AreMerged calls merged
AreMerged (Closed sid ∷ calls) merged = AreMerged calls merged
AreMerged (Fed sid piece ∷ calls) merged = AreMerged calls merged
AreMerged (Turned at most ∷ calls) merged = MergesTurn (AreMerged calls) calls at most merged
AreMerged (Given sid answer ∷ calls) merged = AreMerged calls merged

-- ---- the answers

-- a session's name after lines, from this one on: that of its last accepted `name` line
abbrev pub name_from : ℕ → Option (List ℕ) → List Merged → Option (List ℕ)
name_from session name [] = name
name_from session name (m ∷ merged) =
    name_from session (if m.session == session then renamed (given_name m.at m.line) name else name) merged

-- The answer to a line of a session with this name, and the table after it: to an act by the verdict on the table
-- before.
abbrev pub IsLineAnswered : TableState → Option (List ℕ) → ℕ → Option Line → Said → TableState → Type 0
IsLineAnswered table name at (Some (Act act)) answer after =
    (reply : Reply) × (entries : List Entry)
    × IsOutcome table (record { at = at; who = name; act = act }) reply entries after × (answer ≡ said reply)
IsLineAnswered table name at (Some (Called given)) answer after =
    (own_answer at (Some (Called given)) ≡ Some answer.line) × (answer.body ≡ []) × (after ≡ table)
IsLineAnswered table name at None answer after =
    (own_answer at None ≡ Some answer.line) × (answer.body ≡ []) × (after ≡ table)

-- the answers to lines that come after others, each on the table that those before it left
abbrev pub AreAnsweredAfter : List Merged → TableState → List Merged → List Said → TableState → Type 0
AreAnsweredAfter before table [] answers after = (answers ≡ []) × (after ≡ table)
AreAnsweredAfter before table (m ∷ merged) answers after =
    (answer : Said) × (rest : List Said) × (between : TableState) × (answers ≡ answer ∷ rest)
    × IsLineAnswered table (name_from m.session None before) m.at m.line answer between
    × AreAnsweredAfter (before ++ m ∷ []) between merged rest after

-- ---- the texts

-- the answers at the places of a session
abbrev pub answers_to : ℕ → List Merged → List Said → List Said
answers_to session merged answers = map (λ p. p.1) (filter (λ p. p.0.session == session) (zip merged answers))

-- A line of it was too long, and all lines before that were taken.
abbrev pub is_done_in : List Call → List Merged → ℕ → Bool
is_done_in calls merged session =
    has_long_line (input_of session calls) && is_none_waiting (lines_left calls merged session)

-- its text: the answers to its lines, and then the farewell to a line that is too long
abbrev pub session_text : List Call → List Merged → List Said → ℕ → List Said
session_text calls merged answers session =
    answers_to session merged answers ++ (if is_done_in calls merged session then farewell ∷ [] else [])
