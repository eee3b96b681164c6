-- Frames that came, one after another, and frames that go.
use Rattle.std.specs.Prelude.{ℕ, ◌≡◌, List, [], ◌∷◌, ◌++◌, drop, Option, Some, None, Ok}
use Rattle.websocket.specs.declared.protocol.frame.coding.OpCode.{OpCode}
use Rattle.websocket.specs.declared.protocol.frame.coding.OpCode.TheVariants as Op
use Rattle.websocket.specs.declared.protocol.frame.coding.Data.TheVariants as Data
use Rattle.websocket.specs.declared.protocol.frame.codec.FrameStatus.TheVariants.{Complete}
use Rattle.websocket.specs.Content.{Content, text, binary, ping, pong, close}
use Rattle.websocket.specs.Connection.{Connection, Effect, Outgoing, read_step, whole_header}
use Rattle.websocket.specs.Frame.{encode_frame}

-- Frames that were read: for each, how many bytes it took and what it did.
abbrev pub Run : Type 0
Run = List (ℕ × Effect)

-- Each frame stood in front of what was left, and the state behind it is the protocol's.
abbrev pub Runs : Connection → List ℕ → Run → Connection → List ℕ → Type 0
Runs conn input [] after rest = (after ≡ conn) × (rest ≡ input)
Runs conn input (frame ∷ frames) after rest =
    (read_step conn input ≡ Ok (Complete frame)) × Runs frame.1.next (drop frame.0 input) frames after rest

-- the text, where the message is one
abbrev pub text_in : Option Content → List (List ℕ)
text_in None = []
text_in (Some (text bytes)) = bytes ∷ []
text_in (Some (binary bytes)) = []
text_in (Some (ping bytes)) = []
text_in (Some (pong bytes)) = []
text_in (Some (close frame)) = []

-- the text messages that ended in these frames, in their order
abbrev pub texts : Run → List (List ℕ)
texts [] = []
texts (frame ∷ frames) = text_in frame.1.message ++ texts frames

-- a frame of a server: whole, and not masked
abbrev pub frame_bytes : OpCode → List ℕ → List ℕ
frame_bytes opcode payload = encode_frame (whole_header opcode None) payload

abbrev pub reply_bytes : Option Outgoing → List ℕ
reply_bytes None = []
reply_bytes (Some out) = frame_bytes out.opcode out.payload

-- what is sent for these frames: pongs, and the answer to a close
abbrev pub replies : Run → List ℕ
replies [] = []
replies (frame ∷ frames) = reply_bytes frame.1.reply ++ replies frames

-- the frames that go, one behind the other
abbrev pub frames_bytes : List Outgoing → List ℕ
frames_bytes [] = []
frames_bytes (out ∷ outs) = frame_bytes out.opcode out.payload ++ frames_bytes outs

abbrev pub outgoing : Option Outgoing → List Outgoing
outgoing None = []
outgoing (Some out) = out ∷ []

abbrev pub text_payload : OpCode → List ℕ → List (List ℕ)
text_payload (Op.Data Data.Text) payload = payload ∷ []
text_payload (Op.Data Data.Binary) payload = []
text_payload (Op.Data Data.Continue) payload = []
text_payload (Op.Control control) payload = []

-- the texts among frames that go
abbrev pub texts_sent : List Outgoing → List (List ℕ)
texts_sent [] = []
texts_sent (out ∷ outs) = text_payload out.opcode out.payload ++ texts_sent outs
