-- What a read of one frame says of the frame, the state and what is left.
use Rattle.std.proofs.Common.{ℕ, ◌≡◌, ◌<◌, List, ◌++◌, drop, length, Option, Some, None, option_map, Ok, Err, Result, refl, ap, ◌∙◌, subst, arith, length-drop}
use Rattle.websocket.specs.declared.error.Error.{Error}
use Rattle.websocket.specs.declared.protocol.config.Role.TheVariants.{Server}
use Rattle.websocket.specs.declared.protocol.context.Step.{Step}
use Rattle.websocket.specs.declared.protocol.frame.codec.FrameStatus.{FrameStatus}
use Rattle.websocket.specs.declared.protocol.frame.codec.FrameStatus.TheVariants.{Partial, Complete}
use Rattle.websocket.specs.Content.{Content, text, binary, ping, pong, close, received_content}
use Rattle.websocket.specs.Connection.{Connection, Effect, read_step}
use Rattle.websocket.specs.View.{Returns, ReadLeaves, KeepsRest}
use Rattle.websocket.proofs.StreamLemmas.{TookFrame_from_read}
use Rattle.lobby_web.specs.declared.socket.Frame.{Frame}
use Rattle.lobby_web.specs.declared.socket.Frame.TheVariants as Is
use Rattle.lobby_web.specs.declared.socket.Socket.{Socket}
use Rattle.lobby_web.specs.Talking.{TakesWhole, TakesFrame}
use Rattle.lobby_web.specs.Codes.{IsFrameOf}
use Rattle.lobby_web.specs.Frames.{reply_bytes}
use Rattle.lobby_web.proofs.FrameLemmas.{next-role}
use Rattle.lobby_web.proofs.SendLemmas.{sends-server}

-- what is known once a whole frame was read
pub record Whole (conn after : Connection) (input unmasked old new : List ℕ) (step : Step) (frame : Frame) : Type 0 where
  pub taken : ℕ × Effect
  pub read : read_step conn input ≡ Ok (Complete taken)
  pub state : after ≡ taken.1.next
  pub rest : drop step.consumed unmasked ≡ drop taken.0 input
  pub output : new ≡ old ++ reply_bytes taken.1.reply
  pub shorter : length (drop taken.0 input) < length input
  pub is : IsFrameOf taken.1.message frame

whole-at : (r : Result (FrameStatus (ℕ × Effect)) Error) (conn after : Connection) (input unmasked old new : List ℕ) (step : Step) (frame : Frame)
    → read_step conn input ≡ r → conn.role ≡ Server → Returns r unmasked (Complete step) → ReadLeaves r conn after old new
    → KeepsRest (Complete step) input unmasked → IsFrameOf (option_map (received_content unmasked) step.message) frame
    → Whole conn after input unmasked old new step frame
whole-at (Err e) conn after input unmasked old new step frame is server returns leaves keeps says = absurd returns
whole-at (Ok (Partial n)) conn after input unmasked old new step frame is server returns leaves keeps says = cc returns
whole-at (Ok (Complete p)) conn after input unmasked old new step frame is server returns leaves keeps says =
    let took = TookFrame_from_read conn input p is in
    let role : after.role ≡ Server = ap (λ (c : Connection). c.role) leaves.0 ∙ next-role conn input p is ∙ server in
    record {
      taken = p;
      read = is;
      state = leaves.0;
      rest = keeps.1 ∙ ap (λ n. drop n input) returns.0;
      output = sends-server after.role p.1.reply old new role leaves.1;
      shorter = omega (arith, length-drop p.0 input, took.not_empty, took.inside);
      is = subst (λ (m : Option Content). IsFrameOf m frame) returns.1.0 says;
    }

pub whole : (conn after : Connection) (input unmasked old new : List ℕ) (step : Step) (frame : Frame) → conn.role ≡ Server
    → Returns (read_step conn input) unmasked (Complete step) → ReadLeaves (read_step conn input) conn after old new
    → KeepsRest (Complete step) input unmasked → IsFrameOf (option_map (received_content unmasked) step.message) frame
    → Whole conn after input unmasked old new step frame
whole conn after input unmasked old new step frame server returns leaves keeps says =
    whole-at (read_step conn input) conn after input unmasked old new step frame refl server returns leaves keeps says

-- what is known where no whole frame is left
pub record Part (conn after : Connection) (input unmasked old new : List ℕ) (needed : ℕ) : Type 0 where
  pub read : read_step conn input ≡ Ok (Partial needed)
  pub state : after ≡ conn
  pub rest : unmasked ≡ input
  pub output : new ≡ old

part-at : (r : Result (FrameStatus (ℕ × Effect)) Error) (conn after : Connection) (input unmasked old new : List ℕ) (needed : ℕ)
    → read_step conn input ≡ r → Returns r unmasked (Partial needed) → ReadLeaves r conn after old new → KeepsRest (Partial needed) input unmasked
    → Part conn after input unmasked old new needed
part-at (Err e) conn after input unmasked old new needed is returns leaves keeps = absurd returns
part-at (Ok (Partial n)) conn after input unmasked old new needed is returns leaves keeps =
    let same : n ≡ needed = cc returns in
    record { read = is ∙ ap (λ k. Ok (Partial k)) same; state = leaves.0; rest = keeps; output = leaves.1 }
part-at (Ok (Complete p)) conn after input unmasked old new needed is returns leaves keeps = absurd returns

pub part : (conn after : Connection) (input unmasked old new : List ℕ) (needed : ℕ) → Returns (read_step conn input) unmasked (Partial needed)
    → ReadLeaves (read_step conn input) conn after old new → KeepsRest (Partial needed) input unmasked → Part conn after input unmasked old new needed
part conn after input unmasked old new needed returns leaves keeps =
    part-at (read_step conn input) conn after input unmasked old new needed refl returns leaves keeps

not-waits : (message : Option Content) → IsFrameOf message Is.Waits → ⊥
not-waits None is = cc is
not-waits (Some (text bytes)) is = is
not-waits (Some (binary bytes)) is = cc is
not-waits (Some (ping bytes)) is = cc is
not-waits (Some (pong bytes)) is = cc is
not-waits (Some (close reason)) is = cc is

not-slow : (message : Option Content) → IsFrameOf message Is.Slow → ⊥
not-slow None is = cc is
not-slow (Some (text bytes)) is = is
not-slow (Some (binary bytes)) is = cc is
not-slow (Some (ping bytes)) is = cc is
not-slow (Some (pong bytes)) is = cc is
not-slow (Some (close reason)) is = cc is

not-bad : (message : Option Content) (error : Error) → IsFrameOf message (Is.Bad error) → ⊥
not-bad None error is = cc is
not-bad (Some (text bytes)) error is = is
not-bad (Some (binary bytes)) error is = cc is
not-bad (Some (ping bytes)) error is = cc is
not-bad (Some (pong bytes)) error is = cc is
not-bad (Some (close reason)) error is = cc is

-- a whole frame that was taken is what the next frame was
pub takes : (conn : Connection) (input output : List ℕ) (new : Socket) (frame : Frame) → TakesWhole conn input output new frame → TakesFrame conn input output new frame
takes conn input output new Is.Waits whole = absurd (not-waits whole.taken.1.message whole.is)
takes conn input output new Is.Quiet whole = whole
takes conn input output new (Is.Text found) whole = whole
takes conn input output new Is.Lost whole = whole
takes conn input output new Is.Binary whole = whole
takes conn input output new Is.Close whole = whole
takes conn input output new Is.Slow whole = absurd (not-slow whole.taken.1.message whole.is)
takes conn input output new (Is.Bad error) whole = absurd (not-bad whole.taken.1.message error whole.is)
