-- What a frame brings is no longer than the frame, but for the answer to a close that may not be sent back.
use Rattle.std.proofs.Common.{ℕ, ◌≡◌, ◌≤◌, ◌+◌, List, [], ◌∷◌, ◌++◌, drop, length, Option, None, Some, Ok, Err, Result, Bool, true, false, cond, not, nat_lt, codes, refl, ap, ◌∙◌, subst, arith, length-append, length-drop, inl, inr}
use Rattle.std.specs.List.{slice_range}
use Rattle.std.proofs.lemmas.Bool.Decides.{leb_tells, nat_tests}
use Rattle.std.proofs.lemmas.List.Folds.{drop_split}
use Rattle.websocket.specs.declared.error.Error.{Error}
use Rattle.websocket.specs.declared.error.Error.TheVariants.{Protocol}
use Rattle.websocket.specs.declared.error.ProtocolError.TheVariants.{FragmentedControlFrame, ControlFrameTooBig}
use Rattle.websocket.specs.declared.protocol.incomplete.MessageType.{MessageType}
use Rattle.websocket.specs.declared.protocol.incomplete.MessageType.TheVariants as Kind
use Rattle.websocket.specs.declared.protocol.frame.coding.Data.{Data}
use Rattle.websocket.specs.declared.protocol.frame.coding.Data.TheVariants.{Continue, Text, Binary}
use Rattle.websocket.specs.declared.protocol.frame.coding.Control.{Control}
use Rattle.websocket.specs.declared.protocol.frame.coding.Control.TheVariants.{Close, Ping, Pong}
use Rattle.websocket.specs.declared.protocol.frame.coding.OpCode.{OpCode}
use Rattle.websocket.specs.declared.protocol.frame.coding.OpCode.TheVariants as Op
use Rattle.websocket.specs.declared.protocol.frame.header.FrameHeader.{FrameHeader}
use Rattle.websocket.specs.declared.protocol.frame.codec.RawFrame.{RawFrame}
use Rattle.websocket.specs.declared.protocol.frame.codec.FrameStatus.{FrameStatus}
use Rattle.websocket.specs.declared.protocol.frame.codec.FrameStatus.TheVariants.{Partial, Complete}
use Rattle.websocket.specs.declared.protocol.frame.coding.CloseCode.{CloseCode}
use Rattle.websocket.specs.declared.protocol.frame.coding.CloseCode.TheVariants as Code
use Rattle.websocket.specs.declared.protocol.state.WebSocketState.TheVariants.{ClosedByPeer, CloseAcknowledged}
use Rattle.websocket.specs.Mask.{apply_mask_if}
use Rattle.websocket.specs.FrameHeader.{Decoded, IsHeader, decode_header, header_len}
use Rattle.websocket.specs.Frame.{after_check, check_size, decode_frame, frame_after_header, frame_at, Checked}
use Rattle.websocket.specs.Content.{Content}
use Rattle.websocket.specs.Connection.{Connection, Effect, on_frame, on_opcode, on_control, on_short_control, on_close, close_effect, has_allowed_code, on_data, on_data_after, on_message_bytes, deliver, read_step, read_decoded, consumed_with, check_open, decode_close, check_so_far, can_write, whole_header}
use Rattle.websocket.proofs.DecodeLemmas.{ltb_false, ltb_true}
use Rattle.websocket.proofs.FrameLemmas.{decode_frame_inside, length-encode_frame}
use Rattle.websocket.proofs.MaskLemmas.{length-apply_mask_if}
use Rattle.websocket.proofs.StreamLemmas.{after_check_passed}
use Rattle.lobby_web.specs.Frames.{Run, Runs, replies, reply_bytes, frame_bytes}

-- how many bytes more than it has the answer to a close may have, where one may still be sent
abbrev pub room : Connection → ℕ
room conn = cond (can_write conn.state) 22 0

-- ---- what a frame does with so many bytes of payload

abbrev Fits : Connection → ℕ → Result Effect Error → Type 0
Fits conn k (Err e) = Unit {0}
Fits conn k (Ok effect) = length (reply_bytes effect.reply) + room effect.next ≤ 2 + k + room conn

pub short-frame : (op : OpCode) (p : List ℕ) → length p ≤ 125 → length (frame_bytes op p) ≡ 2 + length p
short-frame op p short =
    let valid : IsHeader (whole_header op None) (length p) = record { mask = tt; top_bit_clear = omega arith } in
    length-encode_frame (whole_header op None) p valid ∙ rw (ltb_true (length p) 126 (omega arith)) refl

fits-check : (conn : Connection) (k : ℕ) (check : Checked Error) (r : Result Effect Error) → Fits conn k r → Fits conn k (after_check check r)
fits-check conn k (Ok x) r h = h
fits-check conn k (Err e) r h = tt

fits-unless : (conn : Connection) (k : ℕ) (x : Bool) (e : Error) (r : Result Effect Error) → (x ≡ false → Fits conn k r) → Fits conn k (cond x (Err e) r)
fits-unless conn k true e r h = tt
fits-unless conn k false e r h = h refl

fits-cond : (conn : Connection) (k : ℕ) (x : Bool) (a b : Result Effect Error) → Fits conn k a → Fits conn k b → Fits conn k (cond x a b)
fits-cond conn k true a b h j = h
fits-cond conn k false a b h j = j

fits-close-if : (conn : Connection) (f : Option (CloseCode × List ℕ)) (p : List ℕ) (writes allowed : Bool) → can_write conn.state ≡ writes → length p ≤ 125
    → Fits conn (length p) (Ok (cond (not writes) (close_effect conn f None CloseAcknowledged)
    (cond allowed (close_effect conn f (Some p) ClosedByPeer) (close_effect conn (Some (Code.Protocol, [])) (Some (3 ∷ 234 ∷ codes "Protocol violation")) ClosedByPeer))))
fits-close-if conn f p false allowed is short = omega arith
fits-close-if conn f p true true is short = omega (arith, short-frame (Op.Control Close) p short)
fits-close-if conn f p true false is short =
    let all : room conn ≡ 22 = ap (λ w. cond w 22 0) is in
    omega (arith, all, short-frame (Op.Control Close) (3 ∷ 234 ∷ codes "Protocol violation") (omega arith))

fits-close : (conn : Connection) (p : List ℕ) (r : Result (Option (CloseCode × List ℕ)) Error) → length p ≤ 125 → Fits conn (length p) (on_close conn p r)
fits-close conn p (Err e) short = tt
fits-close conn p (Ok f) short = fits-close-if conn f p (can_write conn.state) (has_allowed_code f) refl short

fits-pong : (conn : Connection) (p : List ℕ) (writes : Bool) → length p ≤ 125
    → length (reply_bytes (cond writes (Some (record { opcode = Op.Control Pong; payload = p })) None)) + room conn ≤ 2 + length p + room conn
fits-pong conn p true short = omega (arith, short-frame (Op.Control Pong) p short)
fits-pong conn p false short = omega arith

fits-short : (conn : Connection) (c : Control) (p : List ℕ) → length p ≤ 125 → Fits conn (length p) (on_short_control conn c p)
fits-short conn Close p short = fits-close conn p (decode_close p) short
fits-short conn Pong p short = omega arith
fits-short conn Ping p short = fits-pong conn p (can_write conn.state) short

short-of : (n : ℕ) → nat_lt 125 n ≡ false → n ≤ 125
short-of n h = grind (arith, nat_tests)

fits-control : (conn : Connection) (c : Control) (f : Bool) (p : List ℕ) → Fits conn (length p) (on_control conn c f p)
unfolding on_control
fits-control conn c f p =
    fits-unless conn (length p) (not f) (Protocol FragmentedControlFrame) (cond (nat_lt 125 (length p)) (Err (Protocol ControlFrameTooBig)) (on_short_control conn c p))
    (λ whole. fits-unless conn (length p) (nat_lt 125 (length p)) (Protocol ControlFrameTooBig) (on_short_control conn c p)
    (λ fits. fits-short conn c p (short-of (length p) fits)))

fits-deliver : (conn : Connection) (k : ℕ) (r : Result Content Error) → Fits conn k (deliver conn r)
fits-deliver conn k (Err e) = tt
fits-deliver conn k (Ok x) = omega arith

fits-bytes : (conn : Connection) (k : ℕ) (m : MessageType) (f : Bool) (bs : List ℕ) → Fits conn k (on_message_bytes conn m f bs)
unfolding on_message_bytes
fits-bytes conn k m f bs =
    let kept : Fits conn k (Ok (record { message = None; reply = None; next = record conn { fragments = Some (m, bs) } })) = omega arith in
    fits-check conn k _ _ (fits-cond conn k f _ _ (fits-deliver conn k _) (fits-check conn k (check_so_far m bs) (Ok (record { message = None; reply = None; next = record conn { fragments = Some (m, bs) } })) kept))

fits-after : (conn : Connection) (k : ℕ) (o : Option (MessageType × List ℕ)) (d : Data) (f : Bool) (p : List ℕ) → Fits conn k (on_data_after conn o d f p)
fits-after conn k None Continue f p = tt
fits-after conn k None Text f p = fits-bytes conn k Kind.Text f p
fits-after conn k None Binary f p = fits-bytes conn k Kind.Binary f p
fits-after conn k (Some q) Continue f p = fits-bytes conn k q.0 f (q.1 ++ p)
fits-after conn k (Some q) Text f p = tt
fits-after conn k (Some q) Binary f p = tt

fits-opcode : (conn : Connection) (o : OpCode) (f : Bool) (p : List ℕ) → Fits conn (length p) (on_opcode conn o f p)
unfolding on_data
fits-opcode conn (Op.Control c) f p = fits-control conn c f p
fits-opcode conn (Op.Data d) f p = fits-after conn (length p) conn.fragments d f p

fits-frame : (conn : Connection) (h : FrameHeader) (p : List ℕ) → Fits conn (length p) (on_frame conn h p)
unfolding on_frame
fits-frame conn h p = fits-check conn (length p) _ _ (fits-opcode conn h.opcode h.is_final p)

-- ---- how long a frame is

checked-late : (bs : List ℕ) (h : FrameHeader) (n : ℕ) (check : Checked Error) (frame : RawFrame) → after_check check (Ok (frame_at bs h n)) ≡ Ok (Complete frame)
    → 2 ≤ frame.payload.start
checked-late bs h n (Err e) frame is = absurd (cc is)
checked-late bs h n (Ok _) frame is =
    elim (leb_tells (header_len h n + n) (length bs)) [
      | inl p ↦
          let found : frame ≡ record { header = h; payload = record { start = header_len h n; end = header_len h n + n } } =
          cc (rw (ltb_false (length bs) (header_len h n + n) p.1) at is) in
          rw found (omega arith)
      | inr p ↦ absurd (cc (rw (ltb_true (length bs) (header_len h n + n) p.1) at is))
    ]

header-late : (limit : Option ℕ) (bs : List ℕ) (r : Decoded (FrameHeader × ℕ)) (frame : RawFrame) → frame_after_header limit bs r ≡ Ok (Complete frame) → 2 ≤ frame.payload.start
header-late limit bs (Ok None) frame is = absurd (cc is)
header-late limit bs (Err e) frame is = absurd (cc is)
header-late limit bs (Ok (Some p)) frame is = checked-late bs p.0 p.1 (check_size p.1 limit) frame is

-- a header has two bytes at least
frame-late : (limit : Option ℕ) (bs : List ℕ) (frame : RawFrame) → decode_frame limit bs ≡ Ok (Complete frame) → 2 ≤ frame.payload.start
unfolding decode_frame
frame-late limit bs frame is = header-late limit bs (decode_header bs) frame is

piece-length : (bs : List ℕ) (start end : ℕ) → start ≤ end → end ≤ length bs → length (slice_range bs start end) + start ≡ end
piece-length bs start end sorted inside =
    omega (
      arith,
      ap (λ l. length l) (drop_split bs start end sorted),
      length-append (slice_range bs start end) (drop end bs),
      length-drop start bs,
      length-drop end bs,
      sorted,
      inside,
    )

consumed-is : (n : ℕ) (r : Result Effect Error) (p : ℕ × Effect) → consumed_with n r ≡ Ok (Complete p) → (p.0 ≡ n) × (r ≡ Ok p.1)
consumed-is n (Err e) p is = absurd (cc is)
consumed-is n (Ok effect) p is =
    let same : p ≡ (n, effect) = cc is in rw same (refl, refl)

-- what a frame did, how many bytes it took and how many of them are its payload
pub record Taken (conn : Connection) (bs : List ℕ) (n : ℕ) (effect : Effect) : Type 0 where
  pub inside : n ≤ length bs
  pub header : FrameHeader
  pub payload : List ℕ
  pub long : 2 + length payload ≤ n
  pub does : on_frame conn header payload ≡ Ok effect

decoded-taken : (conn : Connection) (bs : List ℕ) (r : Result (FrameStatus RawFrame) Error) (p : ℕ × Effect) → decode_frame conn.config.max_frame_size bs ≡ r
    → read_decoded conn bs r ≡ Ok (Complete p) → Taken conn bs p.0 p.1
decoded-taken conn bs (Err e) p is read = absurd (cc read)
decoded-taken conn bs (Ok (Partial n)) p is read = absurd (cc read)
decoded-taken conn bs (Ok (Complete frame)) p is read =
    let found = decode_frame_inside _ bs frame is in
    let late = frame-late _ bs frame is in
    let consumed = consumed-is _ _ p read in
    let piece = slice_range bs frame.payload.start frame.payload.end in
    let masked = length-apply_mask_if frame.header.mask piece in
    let size = piece-length bs frame.payload.start frame.payload.end found.0.0 found.0.1 in
    record {
      inside = omega (arith, consumed.0, found.0.1);
      header = frame.header;
      payload = apply_mask_if frame.header.mask piece;
      long = omega (arith, consumed.0, late, masked, size, found.0.0);
      does = consumed.1;
    }

pub taken : (conn : Connection) (bs : List ℕ) (p : ℕ × Effect) → read_step conn bs ≡ Ok (Complete p) → Taken conn bs p.0 p.1
unfolding read_step
taken conn bs p read = decoded-taken conn bs _ p refl (after_check_passed (check_open conn.role conn.state) _ _ read)

one-fits : (conn : Connection) (input : List ℕ) (frame : ℕ × Effect) → read_step conn input ≡ Ok (Complete frame)
    → length (reply_bytes frame.1.reply) + length (drop frame.0 input) + room frame.1.next ≤ length input + room conn
one-fits conn input frame read =
    let took = taken conn input frame read in
    let fits : Fits conn (length took.payload) (Ok frame.1) = subst (λ r. Fits conn (length took.payload) r) took.does (fits-frame conn took.header took.payload) in
    omega (arith, fits, took.long, took.inside, length-drop frame.0 input)

-- what frames bring is no longer than they are, but for the answer to one close
pub run-fits : (conn after : Connection) (input rest : List ℕ) (frames : Run) → Runs conn input frames after rest
    → length (replies frames) + length rest + room after ≤ length input + room conn
run-fits conn after input rest [] runs = rw (runs.0, runs.1) (omega arith)
run-fits conn after input rest (frame ∷ frames) runs =
    omega (
      arith,
      one-fits conn input frame runs.0,
      run-fits frame.1.next after (drop frame.0 input) rest frames runs.1,
      length-append (reply_bytes frame.1.reply) (replies frames),
    )
