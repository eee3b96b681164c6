-- What goes out of a socket over its whole life.
use Rattle.std.proofs.Common.{ℕ, ◌≡◌, inl, inr, List, [], ◌∷◌, ◌++◌, Option, None, Some, Ok, Err, refl, sym, ap, ◌∙◌, append_assoc, append-nil}
use Rattle.std.proofs.lemmas.Bool.{cases_Bool}
use Rattle.websocket.specs.declared.protocol.frame.coding.OpCode.TheVariants as Op
use Rattle.websocket.specs.declared.protocol.frame.coding.Control.TheVariants as Control
use Rattle.websocket.specs.declared.protocol.frame.coding.CloseCode.{CloseCode}
use Rattle.websocket.specs.Content.{Content, text, binary, ping, pong, close, close_payload, content_opcode, content_payload}
use Rattle.websocket.specs.Connection.{Connection, Outgoing}
use Rattle.lobby_web.specs.declared.socket.Socket.{Socket}
use Rattle.lobby_web.specs.declared.socket.Heard.{Heard}
use Rattle.lobby_web.specs.declared.socket.Heard.TheVariants.{Opened, Text as Words}
use Rattle.lobby_web.specs.declared.socket.Unsaid.TheVariants.{NotOpen, NotText, Slow, Memory}
use Rattle.lobby_web.specs.Frames.{Run, Runs, replies, reply_bytes, frame_bytes, frames_bytes, outgoing, texts_sent, text_payload}
use Rattle.lobby_web.specs.Talking.{Gives, ClosesBy, close_frame}
use Rattle.lobby_web.specs.Happening.{SocketStep, came, asked, said, wrote, Does, Happen, all_written, bytes_out, text_of, texts_said, Utters}
use Rattle.lobby_web.proofs.FrameLemmas.{no-text}

pub frames_bytes-append : (outs more : List Outgoing) → frames_bytes (outs ++ more) ≡ frames_bytes outs ++ frames_bytes more
frames_bytes-append [] more = refl
frames_bytes-append (out ∷ outs) more =
    ap (λ l. frame_bytes out.opcode out.payload ++ l) (frames_bytes-append outs more)
    ∙ sym (append_assoc (frame_bytes out.opcode out.payload) (frames_bytes outs) (frames_bytes more))

pub texts_sent-append : (outs more : List Outgoing) → texts_sent (outs ++ more) ≡ texts_sent outs ++ texts_sent more
texts_sent-append [] more = refl
texts_sent-append (out ∷ outs) more =
    ap (λ l. text_payload out.opcode out.payload ++ l) (texts_sent-append outs more)
    ∙ sym (append_assoc (text_payload out.opcode out.payload) (texts_sent outs) (texts_sent more))

-- these frames, of which no more is said than their bytes and their texts
record Frames (bytes : List ℕ) (told : List (List ℕ)) : Type 0 where
  outs : List Outgoing
  spelled : bytes ≡ frames_bytes outs
  words : texts_sent outs ≡ told

none : Frames [] []
none = record { outs = []; spelled = refl; words = refl }

joined : (a b : List ℕ) (s t : List (List ℕ)) → Frames a s → Frames b t → Frames (a ++ b) (s ++ t)
joined a b s t x y = record {
  outs = x.outs ++ y.outs;
  spelled = ap (λ l. l ++ b) x.spelled ∙ ap (λ l. frames_bytes x.outs ++ l) y.spelled ∙ sym (frames_bytes-append x.outs y.outs);
  words = texts_sent-append x.outs y.outs ∙ ap (λ l. l ++ texts_sent y.outs) x.words ∙ ap (λ l. s ++ l) y.words;
}

reply-frames : (reply : Option Outgoing) → texts_sent (outgoing reply) ≡ [] → Frames (reply_bytes reply) []
reply-frames None quiet = none
reply-frames (Some out) quiet = record { outs = out ∷ []; spelled = sym (append-nil (frame_bytes out.opcode out.payload)); words = quiet }

replies-frames : (conn after : Connection) (input rest : List ℕ) (frames : Run) → Runs conn input frames after rest → Frames (replies frames) []
replies-frames conn after input rest [] runs = none
replies-frames conn after input rest (frame ∷ frames) runs =
    joined (reply_bytes frame.1.reply) (replies frames) [] [] (reply-frames frame.1.reply (no-text conn input frame runs.0))
    (replies-frames frame.1.next after _ rest frames runs.1)

close-frames : (code : CloseCode) → Frames (close_frame code) []
close-frames code = record {
  outs = record { opcode = Op.Control Control.Close; payload = close_payload (Some (code, [])) } ∷ [];
  spelled = sym (append-nil (close_frame code));
  words = refl;
}

content-texts : (content : Content) → text_payload (content_opcode content) (content_payload content) ++ [] ≡ text_of content
content-texts (text bytes) = refl
content-texts (binary bytes) = refl
content-texts (ping bytes) = refl
content-texts (pong bytes) = refl
content-texts (close frame) = refl

content-frames : (content : Content) → Frames (frame_bytes (content_opcode content) (content_payload content)) (text_of content)
content-frames content = record {
  outs = record { opcode = content_opcode content; payload = content_payload content } ∷ [];
  spelled = sym (append-nil (frame_bytes (content_opcode content) (content_payload content)));
  words = content-texts content;
}

-- what one event adds to what was written and waits
record Adds (waited : List ℕ) (event : SocketStep) (new : List ℕ) : Type 0 where
  more : List ℕ
  frames : Frames more (texts_said event)
  sum : bytes_out event ++ new ≡ waited ++ more

unchanged : (old new : List ℕ) → new ≡ old → new ≡ old ++ []
unchanged old new same = same ∙ sym (append-nil old)

closes-adds : (conn after : Connection) (input rest : List ℕ) (frames : Run) (code : CloseCode) (heard : Option Heard) (old new : List ℕ)
    → Runs conn input frames after rest → ClosesBy code (old ++ replies frames) new → Adds old (asked heard) new
closes-adds conn after input rest frames code heard old new runs (inl same) =
    record { more = replies frames; frames = replies-frames conn after input rest frames runs; sum = same }
closes-adds conn after input rest frames code heard old new runs (inr closed) =
    record {
      more = replies frames ++ close_frame code;
      frames = joined (replies frames) (close_frame code) [] [] (replies-frames conn after input rest frames runs) (close-frames code);
      sum = closed ∙ append_assoc old (replies frames) (close_frame code);
    }

gives-adds : (old new : Socket) (words : Option (List ℕ)) (heard : Option Heard) → Gives old new words → Adds old.output.items (asked heard) new.output.items
gives-adds old new words heard gives =
    elim (cases_Bool new.is_over) [
      | inl now ↦
          let ends = gives.over now in
          closes-adds old.context gives.conn old.input.items gives.rest gives.frames ends.0 heard old.output.items new.output.items gives.runs ends.1
      | inr still ↦
          record {
            more = replies gives.frames;
            frames = replies-frames old.context gives.conn old.input.items gives.rest gives.frames gives.runs;
            sum = (gives.stands still).2;
          }
    ]

adds : (event : SocketStep) (old new : Socket) → Does event old new → Adds old.output.items event new.output.items
adds (came bytes) old new does = record { more = []; frames = none; sum = unchanged old.output.items new.output.items does.0 }
adds (asked None) old new does = gives-adds old new None None does.1
adds (asked (Some Opened)) old new does =
    record { more = []; frames = none; sum = unchanged old.output.items new.output.items does.1.2 }
adds (asked (Some (Words found))) old new does = gives-adds old new (Some found.items) (Some (Words found)) does.1
adds (said content (Ok x)) old new does = record { more = _; frames = content-frames content; sum = does.5 }
adds (said content (Err NotOpen)) old new does =
    record { more = []; frames = none; sum = unchanged old.output.items new.output.items does.1.2 }
adds (said content (Err NotText)) old new does = absurd does
adds (said content (Err Slow)) old new does = record { more = []; frames = none; sum = unchanged old.output.items new.output.items does.3 }
adds (said content (Err Memory)) old new does = record { more = []; frames = none; sum = unchanged old.output.items new.output.items does.2 }
adds (wrote bytes) old new does = record { more = []; frames = none; sum = unchanged old.output.items (bytes ++ new.output.items) (sym does.0) }

-- the life so far, in one step
pub uttered : (events : List SocketStep) (old new : Socket) → Happen events old new → Utters old.output.items events new
uttered [] old new happen =
    record { frames = []; bytes = unchanged old.output.items new.output.items (ap (λ (s : Socket). s.output.items) happen); texts = refl }
uttered (event ∷ events) old new happen =
    let first = adds event old happen.0 happen.1 in
    let later = uttered events happen.0 new happen.2 in
    let outs = first.frames.outs in
    record {
      frames = outs ++ later.frames;
      bytes = append_assoc (bytes_out event) (all_written events) new.output.items
          ∙ ap (λ l. bytes_out event ++ l) later.bytes
          ∙ sym (append_assoc (bytes_out event) happen.0.output.items (frames_bytes later.frames))
          ∙ ap (λ l. l ++ frames_bytes later.frames) first.sum
          ∙ append_assoc old.output.items first.more (frames_bytes later.frames)
          ∙ ap (λ l. old.output.items ++ (l ++ frames_bytes later.frames)) first.frames.spelled
          ∙ ap (λ l. old.output.items ++ l) (sym (frames_bytes-append outs later.frames));
      texts = texts_sent-append outs later.frames ∙ ap (λ l. l ++ texts_sent later.frames) first.frames.words
          ∙ ap (λ l. texts_said event ++ l) later.texts;
    }
