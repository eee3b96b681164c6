-- What a socket reads, gives and sends.
use Rattle.std.specs.Prelude.{ℕ, ◌≡◌, ◌≢◌, ◌⊎◌, ◌<◌, Bool, true, false, not, ◌&&◌, List, [], ◌∷◌, ◌++◌, drop, length}
use Rattle.std.specs.Prelude.{Option, Some, None, Result, Ok, Err}
use Rattle.websocket.specs.declared.protocol.config.Role.TheVariants.{Server}
use Rattle.websocket.specs.declared.protocol.state.WebSocketState.TheVariants.{Active, ClosedByUs}
use Rattle.websocket.specs.declared.protocol.frame.coding.CloseCode.{CloseCode}
use Rattle.websocket.specs.declared.protocol.frame.coding.OpCode.TheVariants as Op
use Rattle.websocket.specs.declared.protocol.frame.coding.Control.TheVariants as Control
use Rattle.websocket.specs.declared.protocol.frame.codec.FrameStatus.TheVariants.{Partial, Complete}
use Rattle.websocket.specs.Content.{Content, text, binary, ping, pong, close, close_payload, content_opcode}
use Rattle.websocket.specs.Content.{content_payload}
use Rattle.websocket.specs.Connection.{Connection, Effect, read_step, can_write, failed_connection}
use Rattle.websocket.specs.View.{GivesError}
use Rattle.lobby_web.specs.declared.socket.Socket.{Socket}
use Rattle.lobby_web.specs.declared.socket.Frame.{Frame}
use Rattle.lobby_web.specs.declared.socket.Frame.TheVariants.{Waits, Quiet, Text, Lost, Binary, Close}
use Rattle.lobby_web.specs.declared.socket.Frame.TheVariants.{Slow as SlowFrame, Bad}
use Rattle.lobby_web.specs.declared.socket.Heard.{Heard}
use Rattle.lobby_web.specs.declared.socket.Heard.TheVariants.{Opened, Text as Words}
use Rattle.lobby_web.specs.declared.socket.Unsaid.{Unsaid}
use Rattle.lobby_web.specs.declared.socket.Unsaid.TheVariants.{NotOpen, NotText, Slow, Memory}
use Rattle.lobby_web.specs.Codes.{IsFrameOf}
use Rattle.lobby_web.specs.Frames.{Run, Runs, texts, replies, reply_bytes, frame_bytes}

-- A socket that begins: a server's, open and not told so yet, with no message begun, and with the limits on messages.
pub record IsFresh (s : Socket) : Type 0 where
  pub conn : s.context ≡ record {
    role = Server;
    state = Active;
    config = record { max_message_size = Some 4096; max_frame_size = Some 4096; accept_unmasked_frames = false };
    fragments = None;
  }
  pub begun : s.is_over ≡ false
  pub untold : s.is_told ≡ false

-- Only what waits to be written is another.
abbrev pub Keeps : Socket → Socket → Type 0
Keeps old new =
    (new.context ≡ old.context) × (new.input.items ≡ old.input.items) × (new.is_over ≡ old.is_over)
    × (new.is_told ≡ old.is_told)

-- Nothing has changed but whether it was told that it is open.
abbrev pub IsSame : Socket → Socket → Type 0
IsSame old new =
    (new.context ≡ old.context) × (new.input.items ≡ old.input.items) × (new.output.items ≡ old.output.items)
    × (new.is_over ≡ old.is_over)

-- A whole frame was taken off what had come, the first, and answered as the protocol has it; it was this for the lobby.
pub record TakesWhole (conn : Connection) (input output : List ℕ) (new : Socket) (frame : Frame) : Type 0 where
  pub taken : ℕ × Effect
  pub read : read_step conn input ≡ Ok (Complete taken)
  pub state : new.context ≡ taken.1.next
  pub rest : new.input.items ≡ drop taken.0 input
  pub reply : new.output.items ≡ output ++ reply_bytes taken.1.reply
  pub shorter : length new.input.items < length input
  pub is : IsFrameOf taken.1.message frame

-- Nothing was taken.
abbrev pub TakesNothing : Connection → List ℕ → List ℕ → Socket → Type 0
TakesNothing conn input output new = (new.context ≡ conn) × (new.input.items ≡ input) × (new.output.items ≡ output)

-- What the next frame was, from this state, of what had come and with what waited, and what is left.
abbrev pub TakesFrame : Connection → List ℕ → List ℕ → Socket → Frame → Type 0
TakesFrame conn input output new Waits =
    ((needed : ℕ) × (read_step conn input ≡ Ok (Partial needed))) × TakesNothing conn input output new
TakesFrame conn input output new Quiet = TakesWhole conn input output new Quiet
TakesFrame conn input output new (Text bytes) = TakesWhole conn input output new (Text bytes)
TakesFrame conn input output new Lost = TakesWhole conn input output new Lost
TakesFrame conn input output new Binary = TakesWhole conn input output new Binary
TakesFrame conn input output new Close = TakesWhole conn input output new Close
TakesFrame conn input output new SlowFrame = TakesNothing conn input output new
TakesFrame conn input output new (Bad error) =
    GivesError (read_step conn input) error × (new.context ≡ failed_connection conn) × (new.output.items ≡ output)

-- Frames were passed over that gave no text, and then came this one.
pub record Reaches (old new : Socket) (frame : Frame) : Type 0 where
  pub frames : Run
  pub conn : Connection
  pub rest : List ℕ
  pub runs : Runs old.context old.input.items frames conn rest
  pub quiet : texts frames ≡ []
  pub last : TakesFrame conn rest (old.output.items ++ replies frames) new frame

-- The list of what an option has.
abbrev pub given : Option (List ℕ) → List (List ℕ)
given None = []
given (Some words) = words ∷ []

-- a close frame of this code, without a reason
abbrev pub close_frame : CloseCode → List ℕ
close_frame code = frame_bytes (Op.Control Control.Close) (close_payload (Some (code, [])))

-- nothing more goes out, or a close frame of this code does
abbrev pub ClosesBy : CloseCode → List ℕ → List ℕ → Type 0
ClosesBy code old new = (new ≡ old) ⊎ (new ≡ old ++ close_frame code)

-- It is over now, with a close frame where one could be sent.
abbrev pub EndsWith : CloseCode → Socket → Socket → Type 0
EndsWith code old new = (new.input.items ≡ old.input.items) × ClosesBy code old.output.items new.output.items

-- The frames that were read made up one text message, which is given, and no other; or one that is lost for want of
-- memory.
abbrev pub GivesTexts : Run → Option (List ℕ) → Bool → Type 0
GivesTexts frames words over =
    (texts frames ≡ given words) ⊎ ((over ≡ true) × (words ≡ None) × ((lost : List ℕ) × (texts frames ≡ lost ∷ [])))

-- What is given is the first text message of the frames that came. The replies to all that were read are behind what
-- waited; and where nothing is given, no whole frame is left, or it is over, and then with one close frame at most.
pub record Gives (old new : Socket) (words : Option (List ℕ)) : Type 0 where
  pub frames : Run
  pub conn : Connection
  pub rest : List ℕ
  pub runs : Runs old.context old.input.items frames conn rest
  pub texts : GivesTexts frames words new.is_over
  pub stands : new.is_over ≡ false → (new.context ≡ conn) × (new.input.items ≡ rest)
      × (new.output.items ≡ old.output.items ++ replies frames)
  pub over : new.is_over ≡ true → (code : CloseCode)
      × ClosesBy code (old.output.items ++ replies frames) new.output.items
  pub waits : words ≡ None → new.is_over ≡ false → (needed : ℕ) × (read_step conn rest ≡ Ok (Partial needed))
  pub ended : old.is_over ≡ true → (words ≡ None) × IsSame old new

-- whether something may be said
abbrev pub may_say : Socket → Bool
may_say s = not s.is_over && can_write s.context.state

-- the state behind what was said: only a close changes it
abbrev pub said_state : Content → Connection → Connection
said_state (text bytes) conn = conn
said_state (binary bytes) conn = conn
said_state (ping bytes) conn = conn
said_state (pong bytes) conn = conn
said_state (close frame) conn = record conn { state = ClosedByUs }

-- What becomes of what is to be said: its one frame is behind all that waits; or it is not said, for this reason.
abbrev pub Says : Content → Socket → Socket → Result (Unit {0}) Unsaid → Type 0
Says content old new (Ok _) =
    (may_say old ≡ true) × (new.context ≡ said_state content old.context) × (new.input.items ≡ old.input.items)
    × (new.is_over ≡ false) × (new.is_told ≡ old.is_told)
    × (new.output.items ≡ old.output.items ++ frame_bytes (content_opcode content) (content_payload content))
Says content old new (Err NotOpen) = (may_say old ≡ false) × IsSame old new × (new.is_told ≡ old.is_told)
Says content old new (Err NotText) = ⊥
Says content old new (Err Slow) =
    (may_say old ≡ true) × (1048576 < length old.output.items) × (new.is_over ≡ true)
    × (new.output.items ≡ old.output.items) × (new.is_told ≡ old.is_told)
Says content old new (Err Memory) =
    (may_say old ≡ true) × (new.is_over ≡ true) × (new.output.items ≡ old.output.items)
    × (new.is_told ≡ old.is_told)

-- What is heard next: first, once, that it is open, and nothing else changes by it; then what its frames give.
abbrev pub Hears : Socket → Socket → Option Heard → Type 0
Hears old new (Some Opened) = (old.is_told ≡ false) × IsSame old new × (new.is_told ≡ true)
Hears old new (Some (Words found)) = (old.is_told ≡ true) × Gives old new (Some found.items)
Hears old new None = (old.is_told ≡ true) × Gives old new None

-- Bytes came, none as the peer's end: they are behind those that were not read, or it is over.
abbrev pub TakesIn : List ℕ → Socket → Socket → Type 0
TakesIn bytes old new =
    (new.output.items ≡ old.output.items)
    × ((new.is_over ≡ true) ⊎ ((bytes ≢ []) × (new.context ≡ old.context) × (new.input.items ≡ old.input.items ++ bytes)
    × (new.is_over ≡ old.is_over)))
    × (new.is_told ≡ old.is_told)
