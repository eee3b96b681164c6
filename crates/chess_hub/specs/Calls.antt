-- What sessions were called for, told by the calls alone: who began and who closed, who sent which bytes, where the
-- turns fell, and who was given what. The newest call stands first.
use Rattle.std.specs.Prelude.{ℕ, suc, ◌==◌, ◌||◌, ◌&&◌, not, Bool, false, if◌then◌else◌, List, [], ◌∷◌, ◌++◌}
use Rattle.chess_hub.specs.Session.{Said}

pub data Call : Type 0 where
  -- a session began, under this number
  Connected : ℕ → Call
  -- the session of this number was closed
  Closed : ℕ → Call
  -- the session of this number sent bytes
  Fed : ℕ → List ℕ → Call
  -- a turn at a moment took so many lines at most
  Turned : ℕ → ℕ → Call
  -- the session of this number was given an answer
  Given : ℕ → Said → Call

-- whether a session of this number is open
abbrev pub is_open : ℕ → List Call → Bool
is_open sid [] = false
is_open sid (Connected other ∷ calls) = (other == sid) || is_open sid calls
is_open sid (Closed other ∷ calls) = not (other == sid) && is_open sid calls
is_open sid (Fed other piece ∷ calls) = is_open sid calls
is_open sid (Turned at most ∷ calls) = is_open sid calls
is_open sid (Given other answer ∷ calls) = is_open sid calls

-- how many sessions have begun
abbrev pub begun_count : List Call → ℕ
begun_count [] = 0
begun_count (Connected other ∷ calls) = suc (begun_count calls)
begun_count (Closed other ∷ calls) = begun_count calls
begun_count (Fed other piece ∷ calls) = begun_count calls
begun_count (Turned at most ∷ calls) = begun_count calls
begun_count (Given other answer ∷ calls) = begun_count calls

-- Which session has a number, or had it last: 1 is the first that began, 2 the next, and so on, and 0 is none. So a
-- number that is given again is another session's.
abbrev pub which : ℕ → List Call → ℕ
which sid [] = 0
which sid (Connected other ∷ calls) = if other == sid then suc (begun_count calls) else which sid calls
which sid (Closed other ∷ calls) = which sid calls
which sid (Fed other piece ∷ calls) = which sid calls
which sid (Turned at most ∷ calls) = which sid calls
which sid (Given other answer ∷ calls) = which sid calls

-- all bytes that a session sent
abbrev pub input_of : ℕ → List Call → List ℕ
input_of session [] = []
input_of session (Connected sid ∷ calls) = input_of session calls
input_of session (Closed sid ∷ calls) = input_of session calls
input_of session (Fed sid piece ∷ calls) =
    if which sid calls == session then input_of session calls ++ piece else input_of session calls
input_of session (Turned at most ∷ calls) = input_of session calls
input_of session (Given sid answer ∷ calls) = input_of session calls

-- all that it was given
abbrev pub given_to : ℕ → List Call → List Said
given_to session [] = []
given_to session (Connected sid ∷ calls) = given_to session calls
given_to session (Closed sid ∷ calls) = given_to session calls
given_to session (Fed sid piece ∷ calls) = given_to session calls
given_to session (Turned at most ∷ calls) = given_to session calls
given_to session (Given sid answer ∷ calls) =
    if which sid calls == session then given_to session calls ++ answer ∷ [] else given_to session calls
