-- How much waits for a browser, of which bytes are taken only where they are wanted.
use Rattle.std.specs.Prelude.{ℕ, ◌≡◌, ◌≤◌, ◌+◌, List, [], ◌∷◌, length, ⊤, Result, Ok, Err}
use Rattle.websocket.specs.Content.{Content, content_opcode, content_payload}
use Rattle.lobby_web.specs.declared.socket.Socket.{Socket}
use Rattle.lobby_web.specs.declared.socket.Unsaid.{Unsaid}
use Rattle.lobby_web.specs.declared.browser.Stage.TheVariants as At
use Rattle.lobby_web.specs.Frames.{frame_bytes}
use Rattle.lobby_web.specs.Browsing.{WantsBytes}
use Rattle.lobby_web.specs.Happening.{SocketStep, came, asked, said, wrote, Does}

-- Bytes come only where they are wanted, and at most 16,384 at once.
abbrev pub IsWanted : SocketStep → Socket → Type 0
IsWanted (came bytes) socket = WantsBytes (At.Socket socket) × (length bytes ≤ 16384)
IsWanted (asked heard) socket = ⊤
IsWanted (said content result) socket = ⊤
IsWanted (wrote bytes) socket = ⊤

abbrev pub HappenAsWanted : List SocketStep → Socket → Socket → Type 0
HappenAsWanted [] old new = new ≡ old
HappenAsWanted (event ∷ events) old new =
    (mid : Socket) × IsWanted event old × Does event old mid × HappenAsWanted events mid new

-- how many bytes what was said has as a frame, and all that was said
abbrev pub size_if : Content → Result (Unit {0}) Unsaid → ℕ
size_if content (Ok _) = length (frame_bytes (content_opcode content) (content_payload content))
size_if content (Err _) = 0

abbrev pub size_said : SocketStep → ℕ
size_said (came bytes) = 0
size_said (asked heard) = 0
size_said (said content result) = size_if content result
size_said (wrote bytes) = 0

abbrev pub sizes_said : List SocketStep → ℕ
sizes_said [] = 0
sizes_said (event ∷ events) = size_said event + sizes_said events

-- Whatever a browser sends, and however little of what waits it takes: what waits has at most 90,137 bytes, and those
-- that were said to it. That is 65,536, as many as stand unread (8,191 and 16,384), and 26 for the end.
abbrev pub FloodsAreHeld : Type 0
FloodsAreHeld =
    (events : List SocketStep) (old new : Socket) → length old.output.items + length old.input.items ≤ 90111
    → HappenAsWanted events old new → length new.output.items ≤ 90137 + sizes_said events
