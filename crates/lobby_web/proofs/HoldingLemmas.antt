-- What waits for a browser of which bytes are taken only where they are wanted.
use Rattle.std.proofs.Common.{ℕ, ◌≡◌, ◌≤◌, ◌+◌, inl, inr, List, [], ◌∷◌, ◌++◌, Bool, true, false, cond, not, ◌&&◌, length, Option, None, Some, Ok, Err, refl, sym, ap, ◌∙◌, subst, arith, length-append}
use Rattle.std.proofs.lemmas.Bool.{cases_Bool}
use Rattle.websocket.specs.declared.protocol.frame.coding.CloseCode.{CloseCode}
use Rattle.websocket.specs.declared.protocol.frame.coding.OpCode.TheVariants as Op
use Rattle.websocket.specs.declared.protocol.frame.coding.Control.TheVariants as Control
use Rattle.websocket.specs.Content.{Content, close_payload, text, binary, ping, pong, close, content_opcode, content_payload}
use Rattle.websocket.specs.Connection.{Connection, can_write}
use Rattle.lobby_web.specs.declared.socket.Socket.{Socket}
use Rattle.lobby_web.specs.declared.socket.Heard.TheVariants.{Opened, Text as Words}
use Rattle.lobby_web.specs.declared.socket.Unsaid.TheVariants.{NotOpen, NotText, Slow, Memory}
use Rattle.lobby_web.specs.Frames.{replies, frame_bytes}
use Rattle.lobby_web.specs.Talking.{IsSame, Gives, ClosesBy, close_frame, may_say, said_state}
use Rattle.lobby_web.specs.Happening.{SocketStep, came, asked, said, wrote, Does}
use Rattle.lobby_web.specs.Holding.{IsWanted, HappenAsWanted, size_said, sizes_said}
use Rattle.lobby_web.proofs.RoomLemmas.{room, run-fits, short-frame}

-- what waits, what may still be read, and what may still be said of the end
abbrev open_load : Socket → ℕ
open_load s = length s.output.items + length s.input.items + room s.context + 4

abbrev load_if : Bool → Socket → ℕ
load_if true s = length s.output.items
load_if false s = open_load s

abbrev load : Socket → ℕ
load s = load_if s.is_over s

load-over : (s : Socket) → s.is_over ≡ true → load s ≡ length s.output.items
load-over s over = ap (λ b. load_if b s) over

load-still : (s : Socket) → s.is_over ≡ false → load s ≡ open_load s
load-still s still = ap (λ b. load_if b s) still

-- at most what it is while nothing is over
load-most : (s : Socket) → load s ≤ open_load s
load-most s =
    elim (cases_Bool s.is_over) [
      | inl over ↦ omega (arith, load-over s over)
      | inr still ↦ omega (arith, load-still s still)
    ]

load-least : (s : Socket) → length s.output.items ≤ load s
load-least s =
    elim (cases_Bool s.is_over) [
      | inl over ↦ omega (arith, load-over s over)
      | inr still ↦ omega (arith, load-still s still)
    ]

room-most : (b : Bool) → cond b 22 0 ≤ 22
room-most true = omega arith
room-most false = omega arith

-- the same state, and what waits is no more
load-kept : (old new : Socket) → new.context ≡ old.context → new.input.items ≡ old.input.items → new.is_over ≡ old.is_over
    → length new.output.items ≤ length old.output.items → load new ≤ load old
load-kept old new state input over less =
    let rooms : room new.context ≡ room old.context = ap room state in
    let inputs : length new.input.items ≡ length old.input.items = ap (λ l. length l) input in
    elim (cases_Bool old.is_over) [
      | inl was ↦ omega (arith, load-over old was, load-over new (over ∙ was), less)
      | inr was ↦ omega (arith, load-still old was, load-still new (over ∙ was), less, rooms, inputs)
    ]

load-same : (old new : Socket) → IsSame old new → load new ≤ load old
load-same old new same = load-kept old new same.0 same.1 same.3 (omega (arith, ap (λ l. length l) same.2))

close-payload : (code : CloseCode) → length (close_payload (Some (code, []))) ≡ 2
close-payload code = refl

close-length : (code : CloseCode) → length (close_frame code) ≤ 4
close-length code =
    omega (arith, close-payload code, short-frame (Op.Control Control.Close) (close_payload (Some (code, []))) (omega (arith, close-payload code)))

closed-by : (code : CloseCode) (old new : List ℕ) → ClosesBy code old new → length new ≤ length old + 4
closed-by code old new (inl same) = omega (arith, ap (λ l. length l) same)
closed-by code old new (inr more) = omega (arith, ap (λ l. length l) more, length-append old (close_frame code), close-length code)

gives-load : (old new : Socket) (words : Option (List ℕ)) → Gives old new words → load new ≤ load old
gives-load old new words gives =
    let run = run-fits old.context gives.conn old.input.items gives.rest gives.frames gives.runs in
    let sum = length-append old.output.items (replies gives.frames) in
    elim (cases_Bool old.is_over) [
      | inl was ↦ load-same old new (gives.ended was).1
      | inr was ↦
          elim (cases_Bool new.is_over) [
            | inl now ↦
                let ends = gives.over now in
                omega (arith, load-over new now, load-still old was, run, sum, closed-by ends.0 (old.output.items ++ replies gives.frames) new.output.items ends.1)
            | inr now ↦
                let stands = gives.stands now in
                let rooms : room new.context ≡ room gives.conn = ap room stands.0 in
                omega (arith, load-still new now, load-still old was, run, sum, rooms, ap (λ l. length l) stands.1, ap (λ l. length l) stands.2)
          ]
    ]

still-of : (s : Socket) → may_say s ≡ true → s.is_over ≡ false
still-of s may =
    elim (cases_Bool s.is_over) [
      | inl over ↦ absurd (cc (ap (λ b. not b && can_write s.context.state) over, may))
      | inr still ↦ still
    ]

said-room : (content : Content) (conn : Connection) → room (said_state content conn) ≤ room conn
said-room (text bytes) conn = omega arith
said-room (binary bytes) conn = omega arith
said-room (ping bytes) conn = omega arith
said-room (pong bytes) conn = omega arith
said-room (close frame) conn = omega arith

-- one event, where no bytes come
quiet-load : (event : SocketStep) (old new : Socket) → Does event old new → ((bytes : List ℕ) → event ≡ came bytes → ⊥) → load new ≤ load old + size_said event
quiet-load (came bytes) old new does quiet = absurd (quiet bytes refl)
quiet-load (asked None) old new does quiet = omega (arith, gives-load old new None does.1)
quiet-load (asked (Some Opened)) old new does quiet = omega (arith, load-same old new does.1)
quiet-load (asked (Some (Words found))) old new does quiet = omega (arith, gives-load old new (Some found.items) does.1)
quiet-load (said content (Ok x)) old new does quiet =
    let rooms : room new.context ≡ room (said_state content old.context) = ap room does.1 in
    omega (
      arith,
      load-still old (still-of old does.0),
      load-still new does.3,
      rooms,
      said-room content old.context,
      ap (λ l. length l) does.2,
      ap (λ l. length l) does.5,
      length-append old.output.items (frame_bytes (content_opcode content) (content_payload content)),
    )
quiet-load (said content (Err NotOpen)) old new does quiet = omega (arith, load-same old new does.1)
quiet-load (said content (Err NotText)) old new does quiet = absurd does
quiet-load (said content (Err Slow)) old new does quiet =
    omega (arith, load-over new does.2, load-least old, ap (λ l. length l) does.3)
quiet-load (said content (Err Memory)) old new does quiet =
    omega (arith, load-over new does.1, load-least old, ap (λ l. length l) does.2)
quiet-load (wrote bytes) old new does quiet =
    let less : length new.output.items ≤ length old.output.items = omega (arith, ap (λ l. length l) does.0, length-append bytes new.output.items) in
    omega (arith, load-kept old new does.1.0 does.1.1 does.1.2 less)

-- bytes come where they are wanted
came-load : (bytes : List ℕ) (old new : Socket) → IsWanted (came bytes) old → Does (came bytes) old new → load new ≤ 90137
came-load bytes old new wanted does =
    elim does.1 [
      | inl over ↦ omega (arith, load-over new over, ap (λ l. length l) does.0, wanted.0.2)
      | inr taken ↦
          omega (
            arith,
            load-most new,
            ap (λ l. length l) does.0,
            ap (λ l. length l) taken.2,
            length-append old.input.items bytes,
            room-most (can_write new.context.state),
            wanted.0.1,
            wanted.0.2,
            wanted.1,
          )
    ]

event-load : (event : SocketStep) (old new : Socket) (k : ℕ) → load old ≤ 90137 + k → IsWanted event old → Does event old new → load new ≤ 90137 + (k + size_said event)
event-load (came bytes) old new k most wanted does = omega (arith, came-load bytes old new wanted does)
event-load (asked heard) old new k most wanted does = omega (arith, most, quiet-load (asked heard) old new does (λ b e. cc e))
event-load (said content result) old new k most wanted does = omega (arith, most, quiet-load (said content result) old new does (λ b e. cc e))
event-load (wrote bytes) old new k most wanted does = omega (arith, most, quiet-load (wrote bytes) old new does (λ b e. cc e))

all-load : (events : List SocketStep) (old new : Socket) (k : ℕ) → load old ≤ 90137 + k → HappenAsWanted events old new → load new ≤ 90137 + (k + sizes_said events)
all-load [] old new k most happen = subst (λ (s : Socket). load s ≤ 90137 + (k + 0)) (sym happen) (omega (arith, most))
all-load (event ∷ events) old new k most happen =
    omega (arith, all-load events happen.0 new (k + size_said event) (event-load event old happen.0 k most happen.1 happen.2) happen.3)

pub held : (events : List SocketStep) (old new : Socket) → length old.output.items + length old.input.items ≤ 90111 → HappenAsWanted events old new
    → length new.output.items ≤ 90137 + sizes_said events
held events old new few happen =
    let begins : load old ≤ 90137 + 0 = omega (arith, load-most old, few, room-most (can_write old.context.state)) in
    omega (arith, load-least new, all-load events old new 0 begins happen)
