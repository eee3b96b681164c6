-- How answers come to the sessions.
use Rattle.std.specs.Prelude.{ℕ, ◌≡◌, ◌+◌, ◌<◌, ◌≤◌, ◌==◌, zero, suc, List, [], ◌∷◌, ◌++◌, Option, None, IsSome}
use Rattle.std.specs.Prelude.{IsSomeAnd, is_none, length, map, filter, if◌then◌else◌}
use Rattle.std.specs.List.{All}
use Rattle.std.specs.Option.{MatchOption}
use Rattle.std.specs.VecDeque.{deque_len, deque_capacity}
use Rattle.slab.specs.Slab.{Slab, get}
use Rattle.text_lines.specs.Lines.{lines_of}
use Rattle.text_lines.specs.Heard.{Heard, IsFirstLine}
use Rattle.chess_answer.specs.declared.reads.Reply.{Reply}
use Rattle.chess_hub.specs.declared.sessions.Session.{Session}
use Rattle.chess_hub.specs.declared.sessions.Sessions.{Sessions}
use Rattle.chess_hub.specs.declared.turn.TurnLine.{TurnLine}
use Rattle.chess_hub.specs.Session.{Said, SessionState, session_at}
use Rattle.chess_hub.specs.Answers.{given_name, renamed, own_answer}

-- The oldest line is taken, if one waits.
pub record DropsLine (old new : Heard) : Type 0 where
  pub taken : 0 < length (lines_of old.bytes) → (line : List ℕ) × IsFirstLine old.bytes line new.bytes
  pub none : lines_of old.bytes ≡ [] → new ≡ old
  pub long : new.is_long ≡ old.is_long

-- So many lines are.
abbrev pub DropsLines : ℕ → Heard → Heard → Type 0
DropsLines zero old new = new ≡ old
DropsLines (suc n) old new = (between : Heard) × DropsLines n old between × DropsLine between new

-- a line that was taken, and its answer
pub record Answered : Type 0 where
  pub taken : TurnLine
  pub said : Said

abbrev pub own : ℕ → List Answered → List Answered
own sid answered = filter (λ a. a.taken.sid == sid) answered

-- a session's name after its lines
abbrev pub name_over : ℕ → Option (List ℕ) → List Answered → Option (List ℕ)
name_over at name [] = name
name_over at name (a ∷ answered) = name_over at (renamed (given_name at a.taken.line) name) answered

-- A session's lines were taken and answered: its last accepted name holds, and the answers are to be given to it.
pub record HasAnswered (at : ℕ) (lines : List Answered) (old new : SessionState) : Type 0 where
  pub name : new.name ≡ name_over at old.name lines
  pub heard : DropsLines (length lines) old.heard new.heard
  pub answers : new.answers ≡ old.answers ++ map (λ a. a.said) lines
  pub left : new.has_left ≡ old.has_left

-- the same of every session, and none was begun or closed
abbrev pub AllAnswered : ℕ → List Answered → Sessions → Sessions → Type 0
AllAnswered at answered old new = (sid : ℕ) →
    MatchOption (session_at old sid) (session_at new sid ≡ None)
    (λ s. IsSomeAnd (session_at new sid) (HasAnswered at (own sid answered) s))

-- ---- one answer

pub record IsGiven (old : Session) (given : Option (List ℕ)) (reply : Reply) (new : Session) : Type 0 where
  pub name : new.name ≡ renamed given old.name
  pub heard : DropsLine old.lines new.lines
  pub answers : new.answers.items ≡ old.answers.items ++ reply ∷ []
  pub left : new.has_left ≡ old.has_left
  pub len : deque_len new.answers ≡ deque_len old.answers + 1
  pub room : deque_capacity new.answers ≡ deque_capacity old.answers

-- ---- room

-- room for so many answers more
abbrev pub HasRoom : ℕ → Session → Type 0
HasRoom count s = deque_len s.answers + count ≤ deque_capacity s.answers

abbrev pub HaveRoom : ℕ → Slab Session → List TurnLine → Type 0
HaveRoom count slab lines = All (λ t. IsSomeAnd (get slab t.sid) (HasRoom count)) lines

-- the lines are of sessions that are open
abbrev pub AreOpen : Sessions → List TurnLine → Type 0
AreOpen s lines = All (λ t. IsSome (get s.slab t.sid)) lines

-- how many lines ask something of the table
abbrev pub asking_count : ℕ → List TurnLine → ℕ
asking_count at [] = 0
asking_count at (t ∷ lines) = (if is_none (own_answer at t.line) then 1 else 0) + asking_count at lines
