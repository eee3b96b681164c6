-- What a server sends has no mask, and what it sends and reads leaves it a server.
use Rattle.std.proofs.Common.{ℕ, ◌≡◌, inl, inr, List, [], ◌++◌, true, false, Option, None, Some, is_some, Ok, Err, Result, OnOk, OnErr, refl, sym, ap, ◌∙◌, append-nil}
use Rattle.websocket.specs.declared.error.Error.{Error}
use Rattle.websocket.specs.declared.protocol.config.Role.{Role}
use Rattle.websocket.specs.declared.protocol.config.Role.TheVariants.{Server}
use Rattle.websocket.specs.declared.protocol.state.WebSocketState.{WebSocketState}
use Rattle.websocket.specs.declared.protocol.state.WebSocketState.TheVariants as State
use Rattle.websocket.specs.declared.protocol.frame.coding.CloseCode.{CloseCode}
use Rattle.websocket.specs.declared.protocol.frame.coding.OpCode.TheVariants as Op
use Rattle.websocket.specs.declared.protocol.frame.coding.Control.TheVariants as Control
use Rattle.websocket.specs.declared.protocol.frame.coding.Data.TheVariants as Data
use Rattle.websocket.specs.declared.protocol.frame.codec.FrameStatus.{FrameStatus}
use Rattle.websocket.specs.declared.protocol.frame.codec.FrameStatus.TheVariants.{Partial, Complete}
use Rattle.websocket.specs.Frame.{after_check, Checked, encode_frame}
use Rattle.websocket.specs.Content.{Content, text, binary, ping, pong, close, close_payload, content_opcode, content_payload}
use Rattle.websocket.specs.Connection.{Connection, Effect, Outgoing, Sends, whole_header, read_step, write_step, write_active, close_step, close_to, check_close, check_can_write, check_control_size, closing_state, can_write, failed_connection}
use Rattle.websocket.specs.View.{Leaves, ReadLeaves}
use Rattle.lobby_web.specs.Frames.{frame_bytes, reply_bytes}
use Rattle.lobby_web.specs.Talking.{ClosesBy}
use Rattle.lobby_web.proofs.FrameLemmas.{next-role}

no-mask : (mask : Option (List ℕ)) → is_some mask ≡ false → mask ≡ None
no-mask None h = refl
no-mask (Some key) h = cc

pub sends-server : (role : Role) (reply : Option Outgoing) (old new : List ℕ) → role ≡ Server → Sends role reply old new → new ≡ old ++ reply_bytes reply
sends-server role None old new server sends = sends ∙ sym (append-nil old)
sends-server role (Some out) old new server sends =
    let masked : is_some sends.0 ≡ false = rw server at sends.1.0 in
    sends.2 ∙ ap (λ (mask : Option (List ℕ)). old ++ encode_frame (whole_header out.opcode mask) out.payload) (no-mask sends.0 masked)

-- an effect that a check lets through
checked : (check : Checked Error) (effect : Effect) (after : Connection) (old new : List ℕ) → Leaves (after_check check (Ok effect)) after old new
    → Leaves (Ok effect) after old new
checked (Err e) effect after old new leaves = absurd leaves
checked (Ok x) effect after old new leaves = leaves

-- ---- sides

close-role-to : (conn after : Connection) (frame : Option (CloseCode × List ℕ)) (state : Option WebSocketState) (old new : List ℕ)
    → Leaves (close_to conn frame state) after old new → after.role ≡ conn.role
close-role-to conn after frame None old new leaves = ap (λ (c : Connection). c.role) leaves.0
close-role-to conn after frame (Some state) old new leaves =
    let l = checked (check_close frame) (record { message = None; reply = Some (record { opcode = Op.Control Control.Close; payload = close_payload frame }); next = record conn { state = state } }) after old new leaves in
    ap (λ (c : Connection). c.role) l.0

active-role : (conn after : Connection) (content : Content) (old new : List ℕ) → Leaves (write_active conn content) after old new → after.role ≡ conn.role
active-role conn after (text bytes) old new leaves = ap (λ (c : Connection). c.role) leaves.0
active-role conn after (binary bytes) old new leaves = ap (λ (c : Connection). c.role) leaves.0
active-role conn after (ping bytes) old new leaves =
    ap (λ (c : Connection). c.role) (checked (check_control_size bytes) (record { message = None; reply = Some (record { opcode = Op.Control Control.Ping; payload = bytes }); next = conn }) after old new leaves).0
active-role conn after (pong bytes) old new leaves =
    ap (λ (c : Connection). c.role) (checked (check_control_size bytes) (record { message = None; reply = Some (record { opcode = Op.Control Control.Pong; payload = bytes }); next = conn }) after old new leaves).0
active-role conn after (close frame) old new leaves = close-role-to conn after frame (closing_state conn.state) old new leaves

open-write : (check : Checked Error) (r : Result Effect Error) (after : Connection) (old new : List ℕ) → Leaves (after_check check r) after old new → Leaves r after old new
open-write (Err e) r after old new leaves = absurd leaves
open-write (Ok x) r after old new leaves = leaves

-- a write leaves the connection on its side
pub write-role : (conn after : Connection) (content : Content) (old new : List ℕ) → Leaves (write_step conn content) after old new → after.role ≡ conn.role
write-role conn after content old new leaves =
    active-role conn after content old new (open-write (check_can_write conn.state) (write_active conn content) after old new leaves)

-- a close does, whether it can be sent or not
pub close-role : (r : Result (Unit {0}) Error) (conn after : Connection) (frame : Option (CloseCode × List ℕ)) (old new : List ℕ)
    → OnOk r (Leaves (close_step conn frame) after old new) → OnErr r (after ≡ conn) → after.role ≡ conn.role
close-role (Ok x) conn after frame old new ok err = close-role-to conn after frame (closing_state conn.state) old new ok
close-role (Err e) conn after frame old new ok err = ap (λ (c : Connection). c.role) err

read-leaves-role : (r : Result (FrameStatus (ℕ × Effect)) Error) (conn after : Connection) (input old new : List ℕ) → read_step conn input ≡ r
    → ReadLeaves r conn after old new → after.role ≡ conn.role
read-leaves-role (Err e) conn after input old new is leaves = absurd leaves
read-leaves-role (Ok (Partial n)) conn after input old new is leaves = ap (λ (c : Connection). c.role) leaves.0
read-leaves-role (Ok (Complete p)) conn after input old new is leaves =
    ap (λ (c : Connection). c.role) leaves.0 ∙ next-role conn input p is

-- a read does, whether it fails or not
pub read-role : {A : Type 0} (r : Result A Error) (conn after : Connection) (input old new : List ℕ)
    → OnOk r (ReadLeaves (read_step conn input) conn after old new) → OnErr r (after ≡ failed_connection conn) → after.role ≡ conn.role
read-role (Ok x) conn after input old new ok err = read-leaves-role (read_step conn input) conn after input old new refl ok
read-role (Err e) conn after input old new ok err = ap (λ (c : Connection). c.role) err

-- ---- bytes

closes-to : (conn after : Connection) (code : CloseCode) (state : Option WebSocketState) (old new : List ℕ) → after.role ≡ Server
    → Leaves (close_to conn (Some (code, [])) state) after old new → ClosesBy code old new
closes-to conn after code None old new server leaves = inl leaves.1
closes-to conn after code (Some state) old new server leaves =
    let effect : Effect = record { message = None; reply = Some (record { opcode = Op.Control Control.Close; payload = close_payload (Some (code, [])) }); next = record conn { state = state } } in
    let l = checked (check_close (Some (code, []))) effect after old new leaves in
    inr (sends-server after.role effect.reply old new server l.1)

-- a close sends one close frame at most
pub closes : (r : Result (Unit {0}) Error) (conn after : Connection) (code : CloseCode) (old new : List ℕ) → after.role ≡ Server
    → OnOk r (Leaves (close_step conn (Some (code, []))) after old new) → OnErr r (new ≡ old) → ClosesBy code old new
closes (Ok x) conn after code old new server ok err = closes-to conn after code (closing_state conn.state) old new server ok
closes (Err e) conn after code old new server ok err = inl err

active-state : (state : WebSocketState) → can_write state ≡ true → closing_state state ≡ Some State.ClosedByUs
active-state State.Active h = refl
active-state State.ClosedByUs h = cc
active-state State.ClosedByPeer h = cc
active-state State.CloseAcknowledged h = cc
active-state State.Failed h = cc
active-state State.Terminated h = cc

active-writes : (conn after : Connection) (content : Content) (old new : List ℕ) → after.role ≡ Server → can_write conn.state ≡ true
    → Leaves (write_active conn content) after old new → new ≡ old ++ frame_bytes (content_opcode content) (content_payload content)
active-writes conn after (text bytes) old new server active leaves =
    sends-server after.role (Some (record { opcode = Op.Data Data.Text; payload = bytes })) old new server leaves.1
active-writes conn after (binary bytes) old new server active leaves =
    sends-server after.role (Some (record { opcode = Op.Data Data.Binary; payload = bytes })) old new server leaves.1
active-writes conn after (ping bytes) old new server active leaves =
    let effect : Effect = record { message = None; reply = Some (record { opcode = Op.Control Control.Ping; payload = bytes }); next = conn } in
    let l = checked (check_control_size bytes) effect after old new leaves in
    sends-server after.role effect.reply old new server l.1
active-writes conn after (pong bytes) old new server active leaves =
    let effect : Effect = record { message = None; reply = Some (record { opcode = Op.Control Control.Pong; payload = bytes }); next = conn } in
    let l = checked (check_control_size bytes) effect after old new leaves in
    sends-server after.role effect.reply old new server l.1
active-writes conn after (close frame) old new server active leaves =
    let leaves2 : Leaves (close_to conn frame (Some State.ClosedByUs)) after old new = rw (active-state conn.state active) at leaves in
    let effect : Effect = record { message = None; reply = Some (record { opcode = Op.Control Control.Close; payload = close_payload frame }); next = record conn { state = State.ClosedByUs } } in
    let l = checked (check_close frame) effect after old new leaves2 in
    sends-server after.role effect.reply old new server l.1

-- what may be written goes out as its one frame
pub writes : (conn after : Connection) (content : Content) (old new : List ℕ) → conn.role ≡ Server → can_write conn.state ≡ true
    → Leaves (write_step conn content) after old new → new ≡ old ++ frame_bytes (content_opcode content) (content_payload content)
writes conn after content old new server active leaves =
    active-writes conn after content old new (write-role conn after content old new leaves ∙ server) active
    (open-write (check_can_write conn.state) (write_active conn content) after old new leaves)
