-- What a frame is for the lobby, and the close codes.
use Rattle.std.specs.Prelude.{ℕ, ◌≡◌, List, ⊤, Option, Some, None}
use Rattle.websocket.specs.declared.error.Error.{Error}
use Rattle.websocket.specs.declared.error.Error.TheVariants.{ConnectionClosed, AlreadyClosed, Capacity, Protocol, Utf8}
use Rattle.websocket.specs.declared.error.Error.TheVariants.{OutOfMemory}
use Rattle.websocket.specs.declared.protocol.frame.coding.CloseCode.{CloseCode}
use Rattle.websocket.specs.declared.protocol.frame.coding.CloseCode.TheVariants as Code
use Rattle.websocket.specs.Content.{Content, text, binary, ping, pong, close}
use Rattle.lobby_web.specs.declared.socket.Frame.{Frame}
use Rattle.lobby_web.specs.declared.socket.Frame.TheVariants.{Waits, Quiet, Text, Lost, Binary, Close, Slow, Bad}

-- the text, or lost for want of memory
abbrev pub IsTextOf : List ℕ → Frame → Type 0
IsTextOf bytes Waits = ⊥
IsTextOf bytes Quiet = ⊥
IsTextOf bytes (Text found) = found.items ≡ bytes
IsTextOf bytes Lost = ⊤
IsTextOf bytes Binary = ⊥
IsTextOf bytes Close = ⊥
IsTextOf bytes Slow = ⊥
IsTextOf bytes (Bad error) = ⊥

-- What a frame is that gives this message: a text is given as it came, or lost where memory is refused.
abbrev pub IsFrameOf : Option Content → Frame → Type 0
IsFrameOf None frame = frame ≡ Quiet
IsFrameOf (Some (text bytes)) frame = IsTextOf bytes frame
IsFrameOf (Some (binary bytes)) frame = frame ≡ Binary
IsFrameOf (Some (ping bytes)) frame = frame ≡ Quiet
IsFrameOf (Some (pong bytes)) frame = frame ≡ Quiet
IsFrameOf (Some (close reason)) frame = frame ≡ Close

-- 1009 for what is too long, 1007 for what is no text, 1011 where memory is refused, and else 1002
abbrev pub code_of : Error → CloseCode
code_of ConnectionClosed = Code.Protocol
code_of AlreadyClosed = Code.Protocol
code_of (Capacity cause) = Code.Size
code_of (Protocol cause) = Code.Protocol
code_of Utf8 = Code.Invalid
code_of OutOfMemory = Code.Error
