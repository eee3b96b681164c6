-- What a run is told: one session, each line in a turn of its own.
use Rattle.std.specs.Prelude.{ℕ, ◌≡◌, ◌≢◌, ◌⊎◌, true, false, Bool, List, [], ◌∷◌, ◌++◌, Option, Some, None, Result, Ok}
use Rattle.std.specs.Prelude.{Err}
use Rattle.std.specs.Io.KnownBytes.{Appends}
use Rattle.text_lines.specs.Lines.{IsUnfinished}
use Rattle.text_lines.specs.Heard.{heard}
use Rattle.chess_entry.specs.declared.commands.Command.{Command}
use Rattle.sector_dev.specs.declared.device.Device.{Ghosts}
use Rattle.sector_dev.specs.Device.{Measures}
use Rattle.chess_entry.specs.State.{TableState}
use Rattle.chess_line.specs.declared.lines.Line.{Line}
use Rattle.chess_hub.specs.declared.sessions.Sessions.{Sessions}
use Rattle.chess_hub.specs.Session.{Said, SessionState, session_at}
use Rattle.chess_hub.specs.Turn.{IsReading}
use Rattle.chess_hub.specs.Answers.{given_name, renamed, asked, name_at}
use Rattle.chess_store.specs.declared.fault.StoreFault.{StoreFault}
use Rattle.chess_store.specs.Means.{IsKept}
use Rattle.text_lines.specs.declared.answerer.LoopFault.{LoopFault}
use Rattle.text_lines.specs.declared.answerer.LoopFault.TheVariants as loop
use Rattle.text_lines.specs.Texts.{IsText, Streams, Ended}
use Rattle.chess_hub.specs.declared.hub.Hub.{Hub}
use Rattle.chess_hub.specs.declared.fault.HubFault.{HubFault}
use Rattle.chess_hub.specs.declared.fault.HubFault.TheVariants.{NoMemory, Store as OfStore}
use Rattle.chess_hub.specs.declared.running.RunFault.{RunFault}
use Rattle.chess_hub.specs.declared.running.RunFault.TheVariants as faults
use Rattle.chess_hub.specs.Sessions.{IsLineAnswered}
use Rattle.chess_hub.specs.Law.{HubState}
use Rattle.chess_hub.specs.Turning.{Kept, kept, TurnLasts, TurnTried, MayBeAsked, AreRefused}

-- ---- one line

-- an answer as it is written: its line, a line feed, and the whole lines behind it
abbrev pub written : Said → List ℕ
written answer = answer.line ++ 10 ∷ answer.body

-- where a run stands between two lines: the store, the session's name, and the moments that are left
pub record Standing (D M : Type 0) : Type 0 where
  pub store : Kept D
  pub name : Option (List ℕ)
  pub moments : M

abbrev pub stands : {D M : Type 0} → Kept D → Option (List ℕ) → M → Standing D M
stands store name moments = record { store = store; name = name; moments = moments }

-- where a hub stands whose lines are those of this session
abbrev pub standing : {D M : Type 0} {ghosts : Ghosts D} → Hub D ghosts → ℕ → M → Standing D M
standing hub sid moments = stands (kept hub.store) (name_at hub.sessions sid) moments

-- what a turn does to the store and its device
pub record Serves {D : Type 0} (of : Measures D) (old new : Kept D) (result : Result (Unit {0}) HubFault) : Type 0
  where
    pub lasts : IsKept (of.state old.device) old.header old.compaction old.table
        → TurnLasts result (of.state old.device) (of.state new.device) new.header new.compaction old.table new.table
    pub tried : TurnTried of old new result

-- what holds of the commands that a line asks for
pub record LineAsksFor (at : ℕ) (name : Option (List ℕ)) (line : List ℕ) (P : List Command → Type 0) : Type 0 where
  pub read : Option Line
  pub reads : IsReading line read
  pub those : P (asked at name read)

-- A line takes the next moment and is answered, on the table that the store has; of a store whose device has failed
-- only a line that asks nothing of the table, and none that would wear it out. What the store and its device do is said
-- as of any turn.
pub record AnswersLine {D M : Type 0} (of : Measures D) (gives : M → ℕ → M → Type 0) (old : Standing D M)
    (line text : List ℕ) (new : Standing D M) : Type 0 where
  pub at : ℕ
  pub next : gives old.moments at new.moments
  pub read : Option Line
  pub reads : IsReading line read
  pub answer : Said
  pub answered : IsLineAnswered old.store.table old.name at read answer new.store.table
  pub named : new.name ≡ renamed (given_name at read) old.name
  pub says : text ≡ written answer
  pub works : LineAsksFor at old.name line (MayBeAsked old.store.failed old.store.header.seq old.store.table.entries)
  pub serves : Serves of old.store new.store (Ok tt)

-- The store refused what a line asks, for this reason.
pub record IsRefusedBatch {D M : Type 0} (of : Measures D) (gives : M → ℕ → M → Type 0) (old : Standing D M)
    (line : List ℕ) (fault : StoreFault) (new : Standing D M) : Type 0 where
  pub at : ℕ
  pub next : gives old.moments at new.moments
  pub read : Option Line
  pub reads : IsReading line read
  pub refused : AreRefused fault old.store.header.seq old.store.failed old.store.table new.store.table
      (asked at old.name read)
  pub serves : Serves of old.store new.store (Err (OfStore fault))

-- A line finds no answer: memory was refused to the session, and the store is as it was; or the store refused it.
abbrev pub RefusesLine : {D M : Type 0} → Measures D → (M → ℕ → M → Type 0) → Standing D M → List ℕ → HubFault
    → Standing D M → Type 0
RefusesLine of gives old line NoMemory new = new.store ≡ old.store
RefusesLine of gives old line (OfStore fault) new = IsRefusedBatch of gives old line fault new
RefusesLine of gives old line fault new = ⊥

-- ---- a run

-- what a fault of the loop over lines is
abbrev pub of_loop : LoopFault HubFault → RunFault
of_loop loop.Read = faults.Read
of_loop loop.Write = faults.Write
of_loop loop.LineTooLong = faults.LineTooLong
of_loop (loop.Unanswered fault) = faults.Hub fault

-- The writer got the text of an input: the answers to its whole lines, each in a turn of its own at the next moment,
-- and the farewell where a line was too long. `end` is where the run then stands.
pub record IsRunText {D M : Type 0} (of : Measures D) (gives : M → ℕ → M → Type 0) (store : Kept D) (moments : M)
    (old new : Option (List ℕ)) (input : List ℕ) : Type 0 where
  pub text : List ℕ
  pub end : Standing D M
  pub is : IsText (AnswersLine of gives) (stands store None moments) input text end
  pub appended : Appends old new text

-- `Read` comes exactly where the reader failed; `before` and `after` say whether it has.
abbrev pub RunIsOfSource : Result (Unit {0}) RunFault → Bool → Bool → Type 0
RunIsOfSource (Ok done) before after = after ≡ before
RunIsOfSource (Err faults.Read) before after = after ≡ true
RunIsOfSource (Err faults.Write) before after = after ≡ before
RunIsOfSource (Err faults.LineTooLong) before after = after ≡ before
RunIsOfSource (Err (faults.Hub fault)) before after = after ≡ before

-- No session began, for want of memory: nothing was read or written.
pub record BeginsNot (old new : Streams) : Type 0 where
  pub read : new.unread ≡ old.unread
  pub written : new.written ≡ old.written

-- How a run ends, as the loop over lines does, with the store and the moments at its end.
pub record RunsOn {D M : Type 0} (of : Measures D) (gives : M → ℕ → M → Type 0)
    (result : Result (Unit {0}) (LoopFault HubFault)) (old new : Streams) (start : Standing D M) : Type 0 where
  pub end : Standing D M
  pub ended : Ended (AnswersLine of gives) (RefusesLine of gives) result old new start end

abbrev pub RunEnds : {D M : Type 0} → Measures D → (M → ℕ → M → Type 0) → Result (Unit {0}) RunFault → Streams
    → Streams → Standing D M → Type 0
RunEnds of gives (Ok done) old new start = RunsOn of gives (Ok done) old new start
RunEnds of gives (Err faults.Read) old new start = RunsOn of gives (Err loop.Read) old new start
RunEnds of gives (Err faults.Write) old new start = RunsOn of gives (Err loop.Write) old new start
RunEnds of gives (Err faults.LineTooLong) old new start = RunsOn of gives (Err loop.LineTooLong) old new start
RunEnds of gives (Err (faults.Hub fault)) old new start =
    RunsOn of gives (Err (loop.Unanswered fault)) old new start ⊎ ((fault ≡ NoMemory) × BeginsNot old new)

-- ---- the session

-- There is one session, and it is so.
pub record IsAlone (sessions : Sessions) (sid : ℕ) (state : SessionState) : Type 0 where
  pub one : session_at sessions sid ≡ Some state
  pub alone : (other : ℕ) → other ≢ sid → session_at sessions other ≡ None

-- it waits for a line: all that it sent was taken, and all that it is told was given to it
abbrev pub waits : Option (List ℕ) → SessionState
waits name = record { name = name; heard = heard [] false; answers = []; has_left = false }

abbrev pub IsTalking : Sessions → ℕ → Type 0
IsTalking sessions sid = (name : Option (List ℕ)) × IsAlone sessions sid (waits name)

-- a line of it waits
abbrev pub asks : Option (List ℕ) → List ℕ → SessionState
asks name part = record { name = name; heard = heard (part ++ 10 ∷ []) false; answers = []; has_left = false }

pub record IsAsking (sessions : Sessions) (sid : ℕ) : Type 0 where
  pub name : Option (List ℕ)
  pub part : List ℕ
  pub unfinished : IsUnfinished part
  pub is : IsAlone sessions sid (asks name part)

-- its line was answered at this moment, and the answer was given to it
pub record IsTold (at : ℕ) (name : Option (List ℕ)) (text : List ℕ) (answer : Said) (before : TableState)
    (after : HubState) (sid : ℕ) : Type 0 where
  pub read : Option Line
  pub reads : IsReading text read
  pub answered : IsLineAnswered before name at read answer after.table
  pub then : IsAlone after.sessions sid (waits (renamed (given_name at read) name))
