-- What a session has sent and is given.
use Rattle.std.specs.Prelude.{ℕ, ◌≡◌, ◌≢◌, Bool, true, false, ◌&&◌, ◌||◌, not, if◌then◌else◌, List, [], ◌∷◌, ◌++◌}
use Rattle.std.specs.Prelude.{Option, Some, None, map, option_map, string_bytes, codes}
use Rattle.text_lines.specs.Lines.{lines_of}
use Rattle.text_lines.specs.Heard.{Heard, heard}
use Rattle.slab.specs.Slab.{get, slab_len}
use Rattle.chess_answer.specs.declared.reads.Reply.{Reply}
use Rattle.chess_hub.specs.declared.sessions.Session.{Session}
use Rattle.chess_hub.specs.declared.sessions.Sessions.{Sessions}

-- an answer: a line, and whole lines behind it
pub record Said : Type 0 where
  pub line : List ℕ
  pub body : List ℕ

abbrev pub said : Reply → Said
said reply = record { line = reply.line.bytes; body = string_bytes reply.body }

-- A session: its name, what has come and was not taken, the answers that it was not given yet, and whether it was given
-- the last one, which a line that is too long calls for.
pub record SessionState : Type 0 where
  pub name : Option (List ℕ)
  pub heard : Heard
  pub answers : List Said
  pub has_left : Bool

-- a session that has just begun
abbrev pub fresh : SessionState
fresh = record { name = None; heard = heard [] false; answers = []; has_left = false }

abbrev pub shown : Session → SessionState
shown s = record {
  name = s.name;
  heard = s.lines;
  answers = map said s.answers.items;
  has_left = s.has_left;
}

-- the session of a number, if there is one
abbrev pub session_at : Sessions → ℕ → Option SessionState
session_at s sid = option_map shown (get s.slab sid)

abbrev pub session_count : Sessions → ℕ
session_count s = slab_len s.slab

-- One session is so now, or is none; the others are as they were.
pub record Changes (old new : Sessions) (sid : ℕ) (now : Option SessionState) : Type 0 where
  pub changed : session_at new sid ≡ now
  pub others : (other : ℕ) → other ≢ sid → session_at new other ≡ session_at old other

-- All sessions are as they were.
abbrev pub IsUnchanged : Sessions → Sessions → Type 0
IsUnchanged old new = (sid : ℕ) → session_at new sid ≡ session_at old sid

-- ---- the last answer

abbrev pub farewell : Said
farewell = record { line = codes "bye LineTooLong"; body = [] }

abbrev pub is_none_waiting : List (List ℕ) → Bool
is_none_waiting [] = true
is_none_waiting (line ∷ lines) = false

-- A line was too long, and the lines before it were taken.
abbrev pub is_done : Heard → Bool
is_done h = h.is_long && is_none_waiting (lines_of h.bytes)

-- the farewell, where it is due and was not given
abbrev pub farewell_due : SessionState → List Said
farewell_due s = if is_done s.heard && not s.has_left then farewell ∷ [] else []

-- what the session is given from now on, if no more comes
abbrev pub due : SessionState → List Said
due s = s.answers ++ farewell_due s

-- the session after it was given what is due first, if anything is
abbrev pub after_one : SessionState → List Said → SessionState
after_one s [] = record s { has_left = s.has_left || is_done s.heard }
after_one s (a ∷ answers) = record s { answers = answers }

abbrev pub given_one : SessionState → SessionState
given_one s = after_one s s.answers

-- the first of what is due
abbrev pub first_due : List Said → Option Said
first_due [] = None
first_due (a ∷ answers) = Some a
