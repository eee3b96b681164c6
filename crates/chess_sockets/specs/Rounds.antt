-- What is done for clients one after the other: where what their sessions hear comes from, and where what these are
-- given goes.
use Rattle.std.specs.Prelude.{ℕ, ◌≡◌, ◌≢◌, ◌≤◌, ◌+◌, ◌⊎◌, true, false, List, [], ◌∷◌, ◌++◌, Option, Some, None, IsSome}
use Rattle.std.specs.Prelude.{IsSomeAnd, IfSome, length}
use Rattle.std.specs.Io.KnownBytes.{Consumes}
use Rattle.text_lines.specs.Lines.{IsUnfinished}
use Rattle.text_lines.specs.Heard.{heard_more}
use Rattle.chess_hub.specs.declared.sessions.Sessions.{Sessions}
use Rattle.chess_hub.specs.Session.{Said, SessionState, session_at, Changes, IsUnchanged, due, first_due, given_one}
use Rattle.chess_sockets.specs.declared.client.Client.{Client}
use Rattle.chess_sockets.specs.Clients.{IsSilent, IsLongest, IsHeardAt, IsEndSeen, IsHeldUp, HasWaitedOn, HasSpokenOn}
use Rattle.chess_sockets.specs.Clients.{HandsOut, to_go}
use Rattle.chess_sockets.specs.Closings.{WasRefused, IsForeign, IsReason, IsOver}
use Rattle.chess_sockets.specs.Protocols.{AreOfAnotherProtocol}
use Rattle.chess_sockets.specs.Portions.{is_dear, IsDearLine, IsPortion, AreMost}
use Rattle.chess_sockets.specs.Incoming.{held}
use Rattle.chess_sockets.specs.Sending.{waiting}

-- This is done for each of these clients, one after the other; between them all is the same.
abbrev pub AreEach : {S A : Type 0} → (A → A → Type 0) → (Client S → Client S → A → A → Type 0) → List (Client S)
    → List (Client S) → A → A → Type 0
AreEach Same Done [] after old new = (after ≡ []) × Same old new
AreEach {S = S} {A = A} Same Done (client ∷ clients) after old new =
    (next : Client S) × (rest : List (Client S)) × (between : A) × (after ≡ next ∷ rest)
    × Done client next old between × AreEach Same Done clients rest between new

-- Nothing is done for a client whose session is closed.
abbrev pub PassesClosed : {S : Type 0} → Client S → Client S → Sessions → Sessions → Type 0
PassesClosed client after old new =
    session_at old client.sid ≡ None → (after ≡ client) × IsUnchanged old new

-- ---- what comes

-- A session hears these bytes, where no line of it was too long.
pub record Hears (sid : ℕ) (fed : List ℕ) (old new : Sessions) : Type 0 where
  pub state : SessionState
  pub was : session_at old sid ≡ Some state
  pub short : state.heard.is_long ≡ false
  pub heard : Changes old new sid (Some (record state { heard = heard_more state.heard fed }))

-- A session is given bytes that were held back for it: a portion, where nothing of it waits; or none, and it is as it
-- was or closed; or a line of it was too long before, and what comes behind that is dropped.
abbrev pub IsSent : ℕ → List ℕ → Sessions → Sessions → Type 0
IsSent sid fed old new =
    IsPortion fed × IsSomeAnd (session_at old sid) (λ s. s.heard.bytes ≡ []) × Hears sid fed old new
    ⊎ (fed ≡ []) × IsUnchanged old new
    ⊎ (fed ≡ []) × Changes old new sid None
    ⊎ IsSomeAnd (session_at old sid) (λ s. s.heard.is_long ≡ true) × IsUnchanged old new

-- A turn while it reads: the sessions, and for how many lines that ask for much it has room yet.
pub record Intake : Type 0 where
  pub sessions : Sessions
  pub room : ℕ

abbrev pub intake : Sessions → ℕ → Intake
intake sessions room = record { sessions = sessions; room = room }

abbrev pub Holds : Intake → Intake → Type 0
Holds old new = IsUnchanged old.sessions new.sessions × (new.room ≡ old.room)

-- When clients are read for: at a moment, by which they may have been silent for so long, or for ever.
pub record ReadingTimes : Type 0 where
  pub at : ℕ
  pub silence : Option ℕ

abbrev pub times : ℕ → Option ℕ → ReadingTimes
times at silence = record { at = at; silence = silence }

-- What comes on a client's connection is held back, and its session is given what stands in front of that, as much as
-- may be at once, and nothing else. None is read where a line is held back, and no more is held back than a piece. A
-- line that asks for much is given only where there is room, which nothing else takes but one that memory was refused
-- for, and to who has waited longest; the turns are counted that one waits for it. Of a client for which answers wait
-- nothing is read, and nothing that it sent goes on. Of one whose session was given nothing yet nothing goes on either
-- where it begins as another protocol does, and its session is closed in the turn that shows it. A session is closed
-- for a reason: the connection has failed, memory was refused, the client begins as another protocol does, or it has
-- been silent for as long as it may.
pub record IsRead {S : Type 0} (remaining : S → Option (List ℕ)) (when : ReadingTimes) (longest : ℕ)
    (client after : Client S) (old new : Intake) : Type 0 where
  pub sid : after.sid ≡ client.sid
  pub outgoing : waiting after.outgoing ≡ waiting client.outgoing
  pub taken : List ℕ
  pub consumed : Consumes (remaining client.wire.stream) (remaining after.wire.stream) taken
  pub unfinished : taken ≢ [] → IsUnfinished (held client.incoming)
  pub fed : List ℕ
  pub order : held client.incoming ++ taken ≡ fed ++ held after.incoming
  pub short : length (held after.incoming) ≤ 4096
  pub sent : IsSent client.sid fed old.sessions new.sessions
  pub many : fed ≢ [] → AreMost fed (held after.incoming)
  pub fewer : new.room ≤ old.room
  pub dear : IsDearLine fed → (new.room + 1 ≤ old.room) × (longest ≤ client.waited)
  pub spent : (new.room ≡ old.room) ⊎ (is_dear fed ≡ true)
      ⊎ (session_at new.sessions client.sid ≡ None) × WasRefused after
  pub wait : HasWaitedOn (IfSome (session_at old.sessions client.sid) (λ s. IsHeldUp (waiting client.outgoing)
      (held after.incoming) s (session_at new.sessions client.sid))) old.room longest fed (held after.incoming)
      client.waited after.waited
  pub first : HasSpokenOn (held client.incoming ++ taken) fed client.has_spoken after.has_spoken
  pub foreign : client.has_spoken ≡ false → taken ≢ [] → AreOfAnotherProtocol (held client.incoming ++ taken)
      → session_at new.sessions client.sid ≡ None
  pub unread : waiting client.outgoing ≢ [] → (after.wire.stream ≡ client.wire.stream)
      × (held after.incoming ≡ held client.incoming) × IsUnchanged old.sessions new.sessions
  pub heard : IsHeardAt (remaining client.wire.stream) (remaining after.wire.stream) when.at client.heard_at
      after.heard_at
  pub ended : IsEndSeen (remaining after.wire.stream) client.has_ended after.has_ended
  pub closed : PassesClosed client after old.sessions new.sessions
  pub reason : IsSome (session_at old.sessions client.sid) → session_at new.sessions client.sid ≡ None
      → IsReason after (IsForeign after) (IsSomeAnd when.silence (IsSilent after old.sessions when.at)) ⊥ ⊥

-- Each client is read for. A turn has room for one line that asks for much, which goes to who has waited longest.
abbrev pub AreRead : {S : Type 0} → (S → Option (List ℕ)) → ReadingTimes → List (Client S) → List (Client S) → Sessions
    → Sessions → Type 0
AreRead remaining when clients read old new =
    (left : ℕ) × (longest : ℕ) × IsLongest old clients longest
    × AreEach Holds (IsRead remaining when longest) clients read (intake old 1) (intake new left)

-- ---- what goes

-- A session is given an answer, the first that is due to it.
pub record IsGiven (sid : ℕ) (answer : Said) (old new : Sessions) : Type 0 where
  pub state : SessionState
  pub was : session_at old sid ≡ Some state
  pub first : first_due (due state) ≡ Some answer
  pub after : Changes old new sid (Some (given_one state))

-- It is given these, of which the newest stands first. Between them nothing changes.
abbrev pub AreGivenTo : ℕ → List Said → Sessions → Sessions → Type 0
AreGivenTo sid [] old new = IsUnchanged old new
AreGivenTo sid (answer ∷ answers) old new =
    (before : Sessions) × (after : Sessions) × AreGivenTo sid answers old before × IsGiven sid answer before after
    × IsUnchanged after new

-- A session is given answers, and nothing else changes.
pub record AreGiven (sid : ℕ) (old new : Sessions) : Type 0 where
  pub answers : List Said
  pub given : AreGivenTo sid answers old new

-- A session is given answers, and then it may be closed.
pub record IsGivenOut (sid : ℕ) (old new : Sessions) : Type 0 where
  pub between : Sessions
  pub given : AreGiven sid old between
  pub closed : IsUnchanged between new ⊎ Changes between new sid None

-- A client's session is given answers, which go to its connection behind what waited, as far as that takes them; and
-- then it may be closed, for a reason.
pub record IsHandedOut {S : Type 0} (contents : S → Option (List ℕ)) (client after : Client S) (old new : Sessions)
    : Type 0 where
  pub given : IsGivenOut client.sid old new
  pub hands : HandsOut (contents client.wire.stream) (contents after.wire.stream)
      (to_go (session_at old client.sid) (waiting client.outgoing))
      (to_go (session_at new client.sid) (waiting after.outgoing))
  pub reason : session_at new client.sid ≡ None → IsOver after (session_at given.between client.sid) hands.left

-- What a client's session is given goes to its connection, behind what waited and as far as that takes it. What is held
-- back, and what is known of the peer's bytes, stays.
pub record IsWritten {S : Type 0} (contents : S → Option (List ℕ)) (client after : Client S) (old new : Sessions)
    : Type 0 where
  pub sid : after.sid ≡ client.sid
  pub incoming : held after.incoming ≡ held client.incoming
  pub heard : after.heard_at ≡ client.heard_at
  pub ended : after.has_ended ≡ client.has_ended
  pub wait : after.waited ≡ client.waited
  pub spoken : after.has_spoken ≡ client.has_spoken
  pub given : IsGivenOut client.sid old new
  pub hands : HandsOut (contents client.wire.stream) (contents after.wire.stream)
      (to_go (session_at old client.sid) (waiting client.outgoing))
      (to_go (session_at new client.sid) (waiting after.outgoing))
  pub reason : IsSome (session_at old client.sid) → session_at new client.sid ≡ None
      → IsOver after (session_at given.between client.sid) hands.left
  pub closed : PassesClosed client after old new

-- Each client is written to.
abbrev pub AreWritten : {S : Type 0} → (S → Option (List ℕ)) → List (Client S) → List (Client S) → Sessions → Sessions
    → Type 0
AreWritten contents clients written old new = AreEach IsUnchanged (IsWritten contents) clients written old new
