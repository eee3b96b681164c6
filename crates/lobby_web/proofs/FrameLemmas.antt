-- What answers a frame is no text; no frame changes whose side a connection is on, and where nothing more may be said, none makes that
-- otherwise.
use Rattle.std.proofs.Common.{ℕ, ◌≡◌, List, [], ◌∷◌, ◌++◌, Option, None, Some, Ok, Err, Result, Bool, true, false, cond, refl, subst, codes, not, nat_lt, length}
use Rattle.websocket.specs.declared.error.Error.{Error}
use Rattle.websocket.specs.declared.error.Error.TheVariants.{Protocol}
use Rattle.websocket.specs.declared.error.ProtocolError.TheVariants.{FragmentedControlFrame, ControlFrameTooBig}
use Rattle.websocket.specs.declared.protocol.incomplete.MessageType.{MessageType}
use Rattle.websocket.specs.declared.protocol.incomplete.MessageType.TheVariants as Kind
use Rattle.websocket.specs.declared.protocol.frame.coding.Data.{Data}
use Rattle.websocket.specs.declared.protocol.frame.coding.Data.TheVariants.{Continue, Text, Binary}
use Rattle.websocket.specs.declared.protocol.frame.coding.Control.{Control}
use Rattle.websocket.specs.declared.protocol.frame.coding.Control.TheVariants.{Close, Ping, Pong}
use Rattle.websocket.specs.declared.protocol.frame.coding.OpCode.{OpCode}
use Rattle.websocket.specs.declared.protocol.frame.coding.OpCode.TheVariants as Op
use Rattle.websocket.specs.declared.protocol.frame.header.FrameHeader.{FrameHeader}
use Rattle.websocket.specs.declared.protocol.frame.coding.CloseCode.{CloseCode}
use Rattle.websocket.specs.declared.protocol.state.WebSocketState.{WebSocketState}
use Rattle.websocket.specs.declared.protocol.state.WebSocketState.TheVariants.{ClosedByPeer, CloseAcknowledged}
use Rattle.websocket.specs.declared.protocol.frame.coding.CloseCode.TheVariants as Code
use Rattle.websocket.specs.declared.protocol.frame.codec.FrameStatus.TheVariants.{Complete}
use Rattle.websocket.specs.Frame.{after_check, Checked}
use Rattle.websocket.specs.Content.{Content}
use Rattle.websocket.specs.Connection.{Connection, Effect, on_frame, on_opcode, on_control, on_short_control, on_close, close_effect, has_allowed_code, on_data, on_data_after, on_message_bytes, deliver, read_step, decode_close, check_so_far, can_write}
use Rattle.websocket.proofs.StreamLemmas.{TookFrame_from_read}
use Rattle.lobby_web.specs.Frames.{outgoing, texts_sent}

-- what a frame does sends no text, leaves the connection on its side, and opens none that is shut
abbrev IsQuiet : Connection → Result Effect Error → Type 0
IsQuiet conn (Err e) = Unit {0}
IsQuiet conn (Ok effect) =
    (texts_sent (outgoing effect.reply) ≡ []) × (effect.next.role ≡ conn.role)
    × (can_write conn.state ≡ false → can_write effect.next.state ≡ false)

quiet-check : (conn : Connection) (check : Checked Error) (r : Result Effect Error) → IsQuiet conn r → IsQuiet conn (after_check check r)
quiet-check conn (Ok x) r h = h
quiet-check conn (Err e) r h = tt

quiet-cond : (conn : Connection) (x : Bool) (a b : Result Effect Error) → IsQuiet conn a → IsQuiet conn b → IsQuiet conn (cond x a b)
quiet-cond conn true a b h k = h
quiet-cond conn false a b h k = k

quiet-ok-cond : (conn : Connection) (x : Bool) (a b : Effect) → IsQuiet conn (Ok a) → IsQuiet conn (Ok b) → IsQuiet conn (Ok (cond x a b))
quiet-ok-cond conn true a b h k = h
quiet-ok-cond conn false a b h k = k

quiet-close-effect : (conn : Connection) (f : Option (CloseCode × List ℕ)) (p : Option (List ℕ)) (s : WebSocketState) → can_write s ≡ false → IsQuiet conn (Ok (close_effect conn f p s))
quiet-close-effect conn f None s shut = (refl, refl, λ _. shut)
quiet-close-effect conn f (Some p) s shut = (refl, refl, λ _. shut)

quiet-close : (conn : Connection) (p : List ℕ) (r : Result (Option (CloseCode × List ℕ)) Error) → IsQuiet conn (on_close conn p r)
quiet-close conn p (Err e) = tt
quiet-close conn p (Ok f) =
    quiet-ok-cond conn (not (can_write conn.state)) (close_effect conn f None CloseAcknowledged)
    (cond (has_allowed_code f) (close_effect conn f (Some p) ClosedByPeer) (close_effect conn (Some (Code.Protocol, [])) (Some (3 ∷ 234 ∷ codes "Protocol violation")) ClosedByPeer))
    (quiet-close-effect conn f None CloseAcknowledged refl)
    (quiet-ok-cond conn (has_allowed_code f) (close_effect conn f (Some p) ClosedByPeer) (close_effect conn (Some (Code.Protocol, [])) (Some (3 ∷ 234 ∷ codes "Protocol violation")) ClosedByPeer) (quiet-close-effect conn f (Some p) ClosedByPeer refl)
    (quiet-close-effect conn (Some (Code.Protocol, [])) (Some (3 ∷ 234 ∷ codes "Protocol violation")) ClosedByPeer refl))

quiet-deliver : (conn : Connection) (r : Result Content Error) → IsQuiet conn (deliver conn r)
quiet-deliver conn (Err e) = tt
quiet-deliver conn (Ok x) = (refl, refl, λ h. h)

no-text-in-pong : (conn : Connection) (p : List ℕ) (writes : Bool) → texts_sent (outgoing (cond writes (Some (record { opcode = Op.Control Pong; payload = p })) None)) ≡ []
no-text-in-pong conn p true = refl
no-text-in-pong conn p false = refl

quiet-short : (conn : Connection) (k : Control) (p : List ℕ) → IsQuiet conn (on_short_control conn k p)
quiet-short conn Close p = quiet-close conn p (decode_close p)
quiet-short conn Pong p = (refl, refl, λ h. h)
quiet-short conn Ping p = (no-text-in-pong conn p (can_write conn.state), refl, λ h. h)

quiet-control : (conn : Connection) (k : Control) (f : Bool) (p : List ℕ) → IsQuiet conn (on_control conn k f p)
unfolding on_control
quiet-control conn k f p =
    quiet-cond conn (not f) (Err (Protocol FragmentedControlFrame)) (cond (nat_lt 125 (length p)) (Err (Protocol ControlFrameTooBig)) (on_short_control conn k p)) tt
    (quiet-cond conn (nat_lt 125 (length p)) (Err (Protocol ControlFrameTooBig)) (on_short_control conn k p) tt (quiet-short conn k p))

quiet-bytes : (conn : Connection) (m : MessageType) (f : Bool) (bs : List ℕ) → IsQuiet conn (on_message_bytes conn m f bs)
unfolding on_message_bytes
quiet-bytes conn m f bs =
    let kept : IsQuiet conn (Ok (record { message = None; reply = None; next = record conn { fragments = Some (m, bs) } })) = (refl, refl, λ h. h) in
    quiet-check conn _ _ (quiet-cond conn f _ _ (quiet-deliver conn _) (quiet-check conn (check_so_far m bs) (Ok (record { message = None; reply = None; next = record conn { fragments = Some (m, bs) } })) kept))

quiet-after : (conn : Connection) (o : Option (MessageType × List ℕ)) (d : Data) (f : Bool) (p : List ℕ) → IsQuiet conn (on_data_after conn o d f p)
quiet-after conn None Continue f p = tt
quiet-after conn None Text f p = quiet-bytes conn Kind.Text f p
quiet-after conn None Binary f p = quiet-bytes conn Kind.Binary f p
quiet-after conn (Some q) Continue f p = quiet-bytes conn q.0 f (q.1 ++ p)
quiet-after conn (Some q) Text f p = tt
quiet-after conn (Some q) Binary f p = tt

quiet-opcode : (conn : Connection) (o : OpCode) (f : Bool) (p : List ℕ) → IsQuiet conn (on_opcode conn o f p)
unfolding on_data
quiet-opcode conn (Op.Control k) f p = quiet-control conn k f p
quiet-opcode conn (Op.Data d) f p = quiet-after conn conn.fragments d f p

quiet-frame : (conn : Connection) (h : FrameHeader) (p : List ℕ) → IsQuiet conn (on_frame conn h p)
unfolding on_frame
quiet-frame conn h p = quiet-check conn _ _ (quiet-opcode conn h.opcode h.is_final p)

quiet : (conn : Connection) (input : List ℕ) (frame : ℕ × Effect) → read_step conn input ≡ Ok (Complete frame) → IsQuiet conn (Ok frame.1)
quiet conn input frame read =
    let took = TookFrame_from_read conn input frame read in
    subst (λ r. IsQuiet conn r) took.does (quiet-frame conn took.header took.payload)

-- no text answers a frame
pub no-text : (conn : Connection) (input : List ℕ) (frame : ℕ × Effect) → read_step conn input ≡ Ok (Complete frame) → texts_sent (outgoing frame.1.reply) ≡ []
no-text conn input frame read = (quiet conn input frame read).0

-- the state behind a frame is on the side of the state before it
pub next-role : (conn : Connection) (input : List ℕ) (frame : ℕ × Effect) → read_step conn input ≡ Ok (Complete frame) → frame.1.next.role ≡ conn.role
next-role conn input frame read = (quiet conn input frame read).1

-- where nothing more may be said, it may not behind a frame
pub next-shut : (conn : Connection) (input : List ℕ) (frame : ℕ × Effect) → read_step conn input ≡ Ok (Complete frame) → can_write conn.state ≡ false → can_write frame.1.next.state ≡ false
next-shut conn input frame read = (quiet conn input frame read).2
