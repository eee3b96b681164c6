-- What a connection does for its session.
use Rattle.std.specs.Prelude.{ℕ, ◌≡◌, ◌≢◌, ◌≤◌, ◌<◌, ◌+◌, ◌-◌, ◌^◌, ◌⊎◌, min, Bool, true, false, List, [], ◌∷◌, ◌++◌}
use Rattle.std.specs.Prelude.{Option, None, IsSome, IfSome, option_map}
use Rattle.std.specs.Io.KnownBytes.{Consumes, IsAtEnd}
use Rattle.std.specs.List.{All}
use Rattle.text_lines.specs.Lines.{IsUnfinished}
use Rattle.text_lines.specs.Heard.{heard_more}
use Rattle.chess_hub.specs.declared.sessions.Sessions.{Sessions}
use Rattle.chess_hub.specs.Session.{Said, SessionState, session_at, due}
use Rattle.chess_sockets.specs.declared.client.Client.{Client}
use Rattle.chess_sockets.specs.Portions.{is_dear, IsDearLine, IsPortion, AreMost}
use Rattle.chess_sockets.specs.Protocols.{AreOfAnotherProtocol}
use Rattle.chess_sockets.specs.Incoming.{held}
use Rattle.chess_sockets.specs.Sending.{waiting, HandsOn}

-- the connection of a client
abbrev pub stream_of : {S : Type 0} → Client S → S
stream_of client = client.wire.stream

-- the moment at which something came last, after a read at a moment that brought these bytes
abbrev pub heard_since : List ℕ → ℕ → ℕ → ℕ
heard_since [] at before = before
heard_since (byte ∷ bytes) at before = at

abbrev pub IsOpen : Sessions → ℕ → Type 0
IsOpen sessions sid = IsSome (session_at sessions sid)

-- No other session is touched.
abbrev pub OthersStay : Sessions → Sessions → ℕ → Type 0
OthersStay old new sid = (other : ℕ) → other ≢ sid → session_at new other ≡ session_at old other

-- What is known of a client from one turn to the next: for how many turns on end it has waited with a line that asks
-- for much, and whether its session was given anything yet.
pub record Standing : Type 0 where
  pub waited : ℕ
  pub has_spoken : Bool

abbrev pub standing : {S : Type 0} → Client S → Standing
standing client = record { waited = client.waited; has_spoken = client.has_spoken }

-- Nothing came of a client for so long, by this moment, and nothing waits for it: nothing to be written, no byte of its
-- session and nothing that this is due, and no line that is held back.
pub record IsSilent {S : Type 0} (client : Client S) (sessions : Sessions) (at most : ℕ) : Type 0 where
  pub long : client.heard_at + most ≤ at
  pub written : waiting client.outgoing ≡ []
  pub answered : IfSome (session_at sessions client.sid) (λ s. (s.heard.bytes ≡ []) × (due s ≡ []))
  pub unfinished : IsUnfinished (held client.incoming)

-- A client of an open session has waited so long with a line that asks for much.
pub record HasWaited {S : Type 0} (sessions : Sessions) (clients : List (Client S)) (turns : ℕ) : Type 0 where
  pub front : List (Client S)
  pub client : Client S
  pub others : List (Client S)
  pub order : clients ≡ front ++ client ∷ others
  pub is_open : IsOpen sessions client.sid
  pub long : client.waited ≡ turns

-- One has, and none of an open session longer; or none has waited.
pub record IsLongest {S : Type 0} (sessions : Sessions) (clients : List (Client S)) (longest : ℕ) : Type 0 where
  pub none_longer : All (λ client. IsOpen sessions client.sid → client.waited ≤ longest) clients
  pub some : (longest ≡ 0) ⊎ HasWaited sessions clients longest

-- Where bytes came at this moment it is the moment at which something came last, and else that is as before.
pub record IsHeardAt (before after : Option (List ℕ)) (at old new : ℕ) : Type 0 where
  pub taken : List ℕ
  pub consumed : Consumes before after taken
  pub moment : new ≡ heard_since taken at old

-- That a peer sends no more is known where its bytes are at their end, or was known before.
abbrev pub IsEndSeen : Option (List ℕ) → Bool → Bool → Type 0
IsEndSeen after old new = new ≡ true → (old ≡ true) ⊎ IsAtEnd after

-- ---- what comes

-- The session is given bytes that were held back for it. Where no line of it was too long these are a portion, and
-- nothing of it waits. None leaves it as it was; and what comes behind a line that is too long is dropped.
abbrev pub HasHeard : SessionState → List ℕ → SessionState → Type 0
HasHeard old fed new = (old.heard.is_long ≡ false) × IsPortion fed × (old.heard.bytes ≡ [])
    × (new ≡ record old { heard = heard_more old.heard fed })
    ⊎ (new ≡ old) × (fed ≡ [])
    ⊎ (new ≡ old) × (old.heard.is_long ≡ true)

-- No line of a client can go on in this turn: answers wait to be taken by it, a line of its session waits, that is
-- closed after it, or no line is held back.
abbrev pub IsHeldUp : List ℕ → List ℕ → SessionState → Option SessionState → Type 0
IsHeldUp unsent keeps old new = (unsent ≢ []) ⊎ (old.heard.bytes ≢ []) ⊎ (new ≡ None) ⊎ IsUnfinished keeps

-- For how many turns on end a line has waited that asks for much, once its session was given this and that is still
-- held back: for none once it was given anything, or where no line is held back; for one more where what is held back
-- begins as such a line and the turn had no room for it, or somebody has waited longer; and for as many as before only
-- where the client was held up. So who is not held up, and has a line, is given it or waits so.
pub record HasWaitedOn (HeldUp : Type 0) (room longest : ℕ) (fed keeps : List ℕ) (old new : ℕ) : Type 0 where
  pub given : fed ≢ [] → new ≡ 0
  pub kept : fed ≡ [] → HeldUp × (new ≡ old) ⊎ (new ≡ 0) × IsUnfinished keeps
      ⊎ (new ≡ min (old + 1) (2 ^ 32 - 1)) × (is_dear keeps ≡ true) × ((room ≡ 0) ⊎ (old < longest))

-- A client has spoken once its session is given anything. While it has not, nothing goes on of what begins as another
-- protocol does.
pub record HasSpokenOn (holds fed : List ℕ) (old new : Bool) : Type 0 where
  pub given : fed ≢ [] → new ≡ true
  pub kept : fed ≡ [] → new ≡ old
  pub foreign : old ≡ false → AreOfAnotherProtocol holds → fed ≡ []

-- What stands before a client's line: for how many turns somebody waits who comes first, and the answers that the
-- client has not taken yet.
pub record Ahead : Type 0 where
  pub longest : ℕ
  pub unsent : List ℕ

abbrev pub ahead : ℕ → List ℕ → Ahead
ahead longest unsent = record { longest = longest; unsent = unsent }

-- What is left to be given of a client: the bytes that are held back, how it stands, and for how many lines that ask
-- for much the turn has room yet.
pub record Pending : Type 0 where
  pub holds : List ℕ
  pub stands : Standing
  pub room : ℕ

abbrev pub pends : List ℕ → Standing → ℕ → Pending
pends holds stands room = record { holds = holds; stands = stands; room = room }

abbrev pub pending : {S : Type 0} → Client S → ℕ → Pending
pending client room = pends (held client.incoming) (standing client) room

-- The session is given what stands in front of what is held back for it, as much as may be at once; a line that asks
-- for much takes of the room that the turn has for such lines, and nothing else does, and it is given only where nobody
-- has waited longer. It is closed only where it is given nothing.
pub record GivesOn (line : Ahead) (was is : Pending) (old : SessionState) (new : Option SessionState) : Type 0 where
  pub fed : List ℕ
  pub order : was.holds ≡ fed ++ is.holds
  pub heard : IfSome new (HasHeard old fed)
  pub gone : new ≡ None → fed ≡ []
  pub many : fed ≢ [] → AreMost fed is.holds
  pub fewer : is.room ≤ was.room
  pub dear : IsDearLine fed → (is.room + 1 ≤ was.room) × (line.longest ≤ was.stands.waited)
  pub spent : (is.room ≡ was.room) ⊎ (is_dear fed ≡ true) ⊎ (new ≡ None)
  pub wait : HasWaitedOn (IsHeldUp line.unsent is.holds old new) was.room line.longest fed is.holds was.stands.waited
      is.stands.waited
  pub first : HasSpokenOn was.holds fed was.stands.has_spoken is.stands.has_spoken

-- Bytes came from the peer, none where a line is held back, and the session is given what stands in front of all that
-- is held back. It is closed where by these a client that has not spoken begins as another protocol does.
pub record TakesIn (before after : Option (List ℕ)) (line : Ahead) (was is : Pending) (old : SessionState)
    (new : Option SessionState) : Type 0 where
  pub taken : List ℕ
  pub consumed : Consumes before after taken
  pub unfinished : taken ≢ [] → IsUnfinished was.holds
  pub gives : GivesOn line (record was { holds = was.holds ++ taken }) is old new
  pub closes : was.stands.has_spoken ≡ false → taken ≢ [] → AreOfAnotherProtocol (was.holds ++ taken) → new ≡ None

-- ---- what goes

-- the bytes of an answer: its line with a line feed, and the whole lines behind it
abbrev pub bytes_of : Said → List ℕ
bytes_of a = a.line ++ 10 ∷ a.body

-- those of several, one behind the other
abbrev pub bytes_of_all : List Said → List ℕ
bytes_of_all [] = []
bytes_of_all (a ∷ more) = bytes_of a ++ bytes_of_all more

-- all that is to go to the peer of an open session: what waits already, and then all that the session is due
abbrev pub to_go : Option SessionState → List ℕ → Option (List ℕ)
to_go now waiting = option_map (λ s. waiting ++ bytes_of_all (due s)) now

-- What was written stood at the front of what was to go, and the rest is to go, unless the session was closed.
pub record HandsOut (before after : Option (List ℕ)) (old new : Option (List ℕ)) : Type 0 where
  pub left : List ℕ
  pub hands : IfSome old (λ all. HandsOn before after all left)
  pub waits : IfSome new (λ rest. rest ≡ left)
