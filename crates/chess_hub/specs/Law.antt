-- Any list of calls, each as the hub's contracts say, gives each session its text.
use Rattle.std.specs.Prelude.{ℕ, ◌≡◌, ◌++◌, true, false, List, [], ◌∷◌, Option, Some, None}
use Rattle.text_lines.specs.Heard.{heard_more}
use Rattle.sector_dev.specs.declared.device.Device.{Ghosts}
use Rattle.chess_entry.specs.State.{TableState}
use Rattle.chess_store.specs.declared.store.Store.{Store}
use Rattle.chess_hub.specs.declared.hub.Hub.{Hub}
use Rattle.chess_hub.specs.declared.sessions.Sessions.{Sessions}
use Rattle.chess_hub.specs.Session.{Said, SessionState, fresh, session_at, Changes, IsUnchanged, due, first_due}
use Rattle.chess_hub.specs.Session.{given_one}
use Rattle.chess_hub.specs.Turning.{HasTurned}
use Rattle.chess_hub.specs.Calls.{Call, Connected, Closed, Fed, Turned, Given, is_open, which, given_to}
use Rattle.chess_hub.specs.Sessions.{Merged, AreMerged, AreAnsweredAfter, session_text}

-- The sessions of a hub, and the table that its answers have led to: its store's, until the device fails. From then on
-- no command is answered, and the turns go on over that table.
pub record HubState : Type 0 where
  pub sessions : Sessions
  pub table : TableState

abbrev pub state_of : Sessions → TableState → HubState
state_of sessions table = record { sessions = sessions; table = table }

-- the store that a hub keeps
abbrev pub hub_store : {D : Type 0} {ghosts : Ghosts D} → Hub D ghosts → Store D ghosts
hub_store hub = hub.store

-- to how many of its turns memory was refused
abbrev pub hub_refusals : {D : Type 0} {ghosts : Ghosts D} → Hub D ghosts → ℕ
hub_refusals hub = hub.refusals

-- its sessions, and its store's table
abbrev pub hub_state : {D : Type 0} {ghosts : Ghosts D} → Hub D ghosts → HubState
hub_state hub = state_of hub.sessions hub.store.table

-- what one call does that was not refused
abbrev pub Steps : HubState → Call → HubState → Type 0
Steps old (Connected sid) new =
    (session_at old.sessions sid ≡ None) × Changes old.sessions new.sessions sid (Some fresh) × (new.table ≡ old.table)
Steps old (Closed sid) new = Changes old.sessions new.sessions sid None × (new.table ≡ old.table)
Steps old (Fed sid piece) new =
    (state : SessionState) × (session_at old.sessions sid ≡ Some state) × (state.heard.is_long ≡ false)
    × Changes old.sessions new.sessions sid (Some (record state { heard = heard_more state.heard piece }))
    × (new.table ≡ old.table)
Steps old (Turned at most) new = HasTurned at most old.sessions new.sessions old.table new.table
Steps old (Given sid answer) new =
    (state : SessionState) × (session_at old.sessions sid ≡ Some state) × (first_due (due state) ≡ Some answer)
    × Changes old.sessions new.sessions sid (Some (given_one state)) × (new.table ≡ old.table)

-- Calls that were refused, and those that only ask, may come between: all sessions are as they were, and no command was
-- answered.
pub record Stays (old new : HubState) : Type 0 where
  pub sessions : IsUnchanged old.sessions new.sessions
  pub table : new.table ≡ old.table

-- the states that these calls lead to, from a hub without sessions over this table
abbrev pub Leads : TableState → List Call → HubState → Type 0
Leads table [] s = ((sid : ℕ) → session_at s.sessions sid ≡ None) × (s.table ≡ table)
Leads table (call ∷ calls) s =
    (before : HubState) × (after : HubState) × Leads table calls before × Steps before call after × Stays after s

-- What an open session was given, and what it is given next, are its text.
abbrev pub HasItsText : List Call → List Merged → List Said → ℕ → Option SessionState → Type 0
HasItsText calls merged answers sid None = is_open sid calls ≡ false
HasItsText calls merged answers sid (Some state) =
    (is_open sid calls ≡ true)
    × (given_to (which sid calls) calls ++ due state ≡ session_text calls merged answers (which sid calls))

-- what was given is the beginning of a text
pub record IsFront (given text : List Said) : Type 0 where
  pub left : List Said
  pub whole : given ++ left ≡ text

-- The calls have a merged list and answers to it, by the verdicts on the table; each open session has its text, and
-- each that was closed was given the beginning of its own.
pub record GiveTexts (table : TableState) (calls : List Call) (s : HubState) : Type 0 where
  pub merged : List Merged
  pub are_merged : AreMerged calls merged
  pub answers : List Said
  pub answered : AreAnsweredAfter [] table merged answers s.table
  pub each : (sid : ℕ) → HasItsText calls merged answers sid (session_at s.sessions sid)
  pub past : (session : ℕ) → IsFront (given_to session calls) (session_text calls merged answers session)

abbrev pub LawOfSessions : Type 0
LawOfSessions = (table : TableState) (calls : List Call) (s : HubState) → Leads table calls s → GiveTexts table calls s
