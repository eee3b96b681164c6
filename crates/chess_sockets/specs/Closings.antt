-- Why the session of a client is closed.
use Rattle.std.specs.Prelude.{ℕ, ◌≡◌, ◌⊎◌, true, false, List, [], Option, Some, None, IfSome, IsSomeAnd}
use Rattle.text_lines.specs.Lines.{IsUnfinished}
use Rattle.chess_hub.specs.Session.{SessionState, due}
use Rattle.chess_sockets.specs.declared.client.Client.{Client}
use Rattle.chess_sockets.specs.declared.closing.Closing.{Closing}
use Rattle.chess_sockets.specs.declared.closing.Closing.TheVariants.{Fault, NoMemory, OtherProtocol, Silence, End}
use Rattle.chess_sockets.specs.declared.closing.Closing.TheVariants.{Farewell}
use Rattle.chess_sockets.specs.Incoming.{held}
use Rattle.chess_sockets.specs.Protocols.{AreOfAnotherProtocol}

-- A read of the connection has failed, or a write.
abbrev pub HasFailed : {S : Type 0} → Client S → Type 0
HasFailed client = client.wire.has_failed ≡ true

-- Memory was refused for what the client sends, or for its answers.
abbrev pub WasRefused : {S : Type 0} → Client S → Type 0
WasRefused client = (client.memory.was_refused ≡ true) ⊎ (client.outgoing.was_refused ≡ true)

-- What is held back for a session that was given nothing yet begins as another protocol does.
abbrev pub IsForeign : {S : Type 0} → Client S → Type 0
IsForeign client = (client.has_spoken ≡ false) × AreOfAnotherProtocol (held client.incoming)

-- Neither has the connection failed nor was memory refused.
abbrev pub IsSound : {S : Type 0} → Client S → Type 0
IsSound client = (client.wire.has_failed ≡ false) × (client.memory.was_refused ≡ false)
    × (client.outgoing.was_refused ≡ false)

-- A reason is told, and it holds.
abbrev pub ByReason : Option Closing → Type 0 → Type 0 → Type 0 → Type 0 → Type 0 → Type 0 → Type 0
ByReason None failed refused foreign silent ended left = ⊥
ByReason (Some Fault) failed refused foreign silent ended left = failed
ByReason (Some NoMemory) failed refused foreign silent ended left = refused
ByReason (Some OtherProtocol) failed refused foreign silent ended left = foreign
ByReason (Some Silence) failed refused foreign silent ended left = silent
ByReason (Some End) failed refused foreign silent ended left = ended
ByReason (Some Farewell) failed refused foreign silent ended left = left

-- A client's reason is that its connection has failed, or that memory was refused for it; or it is foreign, or silent,
-- or has ended, or has left, where this means that.
abbrev pub IsReason : {S : Type 0} → Client S → Type 0 → Type 0 → Type 0 → Type 0 → Type 0
IsReason client foreign silent ended left =
    ByReason client.closing (HasFailed client) (WasRefused client) foreign silent ended left

-- The connection has failed, or memory was refused, or the peer speaks another protocol.
abbrev pub IsTrouble : {S : Type 0} → Client S → Type 0
IsTrouble client = IsReason client (IsForeign client) ⊥ ⊥ ⊥

-- The session was given all that is due to it, and of what was to go nothing is left behind the write.
pub record HasAll (session : Option SessionState) (left : List ℕ) : Type 0 where
  pub given : IfSome session (λ s. due s ≡ [])
  pub written : left ≡ []

-- The peer sends no more, no byte of it waits in its session and no line is held back, and it has all its answers.
pub record HasEnded {S : Type 0} (client : Client S) (session : Option SessionState) (left : List ℕ) : Type 0 where
  pub no_more : client.has_ended ≡ true
  pub unfinished : IsUnfinished (held client.incoming)
  pub answered : IfSome session (λ s. s.heard.bytes ≡ [])
  pub all : HasAll session left

-- The session was given its farewell, behind all its answers.
pub record HasLeft (session : Option SessionState) (left : List ℕ) : Type 0 where
  pub told : IsSomeAnd session (λ s. s.has_left ≡ true)
  pub all : HasAll session left

-- Why a session is closed behind a write: the connection has failed, or memory was refused; or its peer has ended, or
-- it has left.
abbrev pub IsOver : {S : Type 0} → Client S → Option SessionState → List ℕ → Type 0
IsOver client session left = IsReason client ⊥ ⊥ (HasEnded client session left) (HasLeft session left)
