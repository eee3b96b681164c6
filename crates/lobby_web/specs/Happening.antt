-- A socket's whole life, as what happens to it, one thing after another.
use Rattle.std.specs.Prelude.{ℕ, ◌≡◌, ◌⊎◌, Bool, true, false, List, [], ◌∷◌, ◌++◌, ⊤, Option, Some, None, Result, Ok}
use Rattle.std.specs.Prelude.{Err}
use Rattle.websocket.specs.Content.{Content, text, binary, ping, pong, close}
use Rattle.websocket.specs.Connection.{Connection, Outgoing}
use Rattle.lobby_web.specs.declared.socket.Socket.{Socket}
use Rattle.lobby_web.specs.declared.socket.Heard.{Heard}
use Rattle.lobby_web.specs.declared.socket.Heard.TheVariants.{Opened, Text as Words}
use Rattle.lobby_web.specs.declared.socket.Unsaid.{Unsaid}
use Rattle.lobby_web.specs.Frames.{Run, Runs, texts, frames_bytes, texts_sent}
use Rattle.lobby_web.specs.Talking.{Keeps, TakesIn, Hears, Says}

-- Bytes came; it was asked what came next, and gave this; a message was to be said, and this became of it; these bytes
-- were written.
pub data SocketStep : Type 0 where
  came : List ℕ → SocketStep
  asked : Option Heard → SocketStep
  said : Content → Result (Unit {0}) Unsaid → SocketStep
  wrote : List ℕ → SocketStep

-- What an event does, by the contracts of a socket's calls.
abbrev pub Does : SocketStep → Socket → Socket → Type 0
Does (came bytes) old new = TakesIn bytes old new
Does (asked heard) old new = Hears old new heard
Does (said content result) old new = Says content old new result
Does (wrote bytes) old new = (old.output.items ≡ bytes ++ new.output.items) × Keeps old new

abbrev pub Happen : List SocketStep → Socket → Socket → Type 0
Happen [] old new = new ≡ old
Happen (event ∷ events) old new = (mid : Socket) × Does event old mid × Happen events mid new

-- the bytes of an event, and of all
abbrev pub bytes_in : SocketStep → List ℕ
bytes_in (came bytes) = bytes
bytes_in (asked heard) = []
bytes_in (said content result) = []
bytes_in (wrote bytes) = []

abbrev pub all_bytes : List SocketStep → List ℕ
all_bytes [] = []
all_bytes (event ∷ events) = bytes_in event ++ all_bytes events

abbrev pub text_heard : Option Heard → List (List ℕ)
text_heard None = []
text_heard (Some Opened) = []
text_heard (Some (Words found)) = found.items ∷ []

-- the text that an event gave, and those that all gave, in their order
abbrev pub texts_given : SocketStep → List (List ℕ)
texts_given (came bytes) = []
texts_given (asked heard) = text_heard heard
texts_given (said content result) = []
texts_given (wrote bytes) = []

abbrev pub all_texts : List SocketStep → List (List ℕ)
all_texts [] = []
all_texts (event ∷ events) = texts_given event ++ all_texts events

abbrev pub is_close : Content → Bool
is_close (text bytes) = false
is_close (binary bytes) = false
is_close (ping bytes) = false
is_close (pong bytes) = false
is_close (close frame) = true

-- The lobby does not begin to close it.
abbrev pub KeepsOpen : SocketStep → Type 0
KeepsOpen (came bytes) = ⊤
KeepsOpen (asked heard) = ⊤
KeepsOpen (said content result) = is_close content ≡ false
KeepsOpen (wrote bytes) = ⊤

abbrev pub AllKeepOpen : List SocketStep → Type 0
AllKeepOpen [] = ⊤
AllKeepOpen (event ∷ events) = KeepsOpen event × AllKeepOpen events

-- The texts that were given are those of these frames, all of them, in their order; or all but the last, which is lost
-- for want of memory, and it is over.
abbrev pub AreGiven : Run → List (List ℕ) → Bool → Type 0
AreGiven frames given over =
    (texts frames ≡ given) ⊎ ((over ≡ true) × ((lost : List ℕ) × (texts frames ≡ given ++ lost ∷ [])))

-- Frames were read from the front of these bytes, by the protocol and none left out, and the texts are theirs.
pub record Heeds (conn : Connection) (bytes : List ℕ) (given : List (List ℕ)) (new : Socket) : Type 0 where
  pub frames : Run
  pub after : Connection
  pub rest : List ℕ
  pub runs : Runs conn bytes frames after rest
  pub texts : AreGiven frames given new.is_over
  pub stands : new.is_over ≡ false → (new.context ≡ after) × (new.input.items ≡ rest)

-- Whatever happens to a socket, and in whatever pieces its bytes come: what it gives are the text messages of the
-- frames in front of all bytes that came, each once, whole and in their order.
abbrev pub MessagesAreHeeded : Type 0
MessagesAreHeeded =
    (events : List SocketStep) (old new : Socket) → AllKeepOpen events → Happen events old new
    → Heeds old.context (old.input.items ++ all_bytes events) (all_texts events) new

abbrev pub bytes_out : SocketStep → List ℕ
bytes_out (came bytes) = []
bytes_out (asked heard) = []
bytes_out (said content result) = []
bytes_out (wrote bytes) = bytes

-- all bytes that were written
abbrev pub all_written : List SocketStep → List ℕ
all_written [] = []
all_written (event ∷ events) = bytes_out event ++ all_written events

abbrev pub text_of : Content → List (List ℕ)
text_of (text bytes) = bytes ∷ []
text_of (binary bytes) = []
text_of (ping bytes) = []
text_of (pong bytes) = []
text_of (close frame) = []

abbrev pub text_if : Content → Result (Unit {0}) Unsaid → List (List ℕ)
text_if content (Ok _) = text_of content
text_if content (Err _) = []

-- the texts that were said, those that were taken, in their order
abbrev pub texts_said : SocketStep → List (List ℕ)
texts_said (came bytes) = []
texts_said (asked heard) = []
texts_said (said content result) = text_if content result
texts_said (wrote bytes) = []

abbrev pub all_said : List SocketStep → List (List ℕ)
all_said [] = []
all_said (event ∷ events) = texts_said event ++ all_said events

-- What was written and what waits are what waited before and whole frames, and the texts among these frames are those
-- that were said.
pub record Utters (waited : List ℕ) (events : List SocketStep) (new : Socket) : Type 0 where
  pub frames : List Outgoing
  pub bytes : all_written events ++ new.output.items ≡ waited ++ frames_bytes frames
  pub texts : texts_sent frames ≡ all_said events

-- Whatever happens to a socket: what goes out are whole frames, and the texts among them are those that were said, each
-- once and in their order.
abbrev pub SayingsGoOut : Type 0
SayingsGoOut =
    (events : List SocketStep) (old new : Socket) → Happen events old new → Utters old.output.items events new
