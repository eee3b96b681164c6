-- What `next` gives, from the frame that it came to.
use Rattle.std.proofs.Common.{ℕ, ◌≡◌, ◌≢◌, inl, inr, List, [], ◌∷◌, ◌++◌, drop, true, false, Option, None, Some, Ok, refl, sym, ap, ◌∙◌, append_assoc, append-nil, subst}
use Rattle.websocket.specs.declared.protocol.frame.coding.CloseCode.{CloseCode}
use Rattle.websocket.specs.declared.protocol.frame.coding.CloseCode.TheVariants as Code
use Rattle.websocket.specs.declared.protocol.frame.codec.FrameStatus.TheVariants.{Partial}
use Rattle.websocket.specs.Content.{Content, text, binary, ping, pong, close}
use Rattle.websocket.specs.Connection.{Connection, read_step}
use Rattle.lobby_web.specs.declared.socket.Socket.{Socket}
use Rattle.lobby_web.specs.declared.socket.Frame.{Frame}
use Rattle.lobby_web.specs.declared.socket.Frame.TheVariants as Is
use Rattle.lobby_web.specs.Codes.{IsFrameOf, IsTextOf}
use Rattle.lobby_web.specs.Frames.{Run, Runs, texts, text_in, replies, reply_bytes}
use Rattle.lobby_web.specs.Talking.{IsSame, TakesWhole, TakesNothing, Gives, ClosesBy}
use Rattle.lobby_web.proofs.RunLemmas.{runs-snoc, texts-snoc, replies-snoc}

-- the text of a frame
abbrev pub words_of : Frame → List (List ℕ)
words_of Is.Waits = []
words_of Is.Quiet = []
words_of (Is.Text found) = found.items ∷ []
words_of Is.Lost = []
words_of Is.Binary = []
words_of Is.Close = []
words_of Is.Slow = []
words_of (Is.Bad error) = []

told-text : (bytes : List ℕ) (frame : Frame) → IsTextOf bytes frame → frame ≢ Is.Lost → bytes ∷ [] ≡ words_of frame
told-text bytes Is.Waits is kept = absurd is
told-text bytes Is.Quiet is kept = absurd is
told-text bytes (Is.Text found) is kept = ap (λ b. b ∷ []) (sym is)
told-text bytes Is.Lost is kept = absurd (kept refl)
told-text bytes Is.Binary is kept = absurd is
told-text bytes Is.Close is kept = absurd is
told-text bytes Is.Slow is kept = absurd is
told-text bytes (Is.Bad error) is kept = absurd is

told : (message : Option Content) (frame : Frame) → IsFrameOf message frame → frame ≢ Is.Lost → text_in message ≡ words_of frame
told None frame is kept = ap words_of (sym is)
told (Some (text bytes)) frame is kept = told-text bytes frame is kept
told (Some (binary bytes)) frame is kept = ap words_of (sym is)
told (Some (ping bytes)) frame is kept = ap words_of (sym is)
told (Some (pong bytes)) frame is kept = ap words_of (sym is)
told (Some (close reason)) frame is kept = ap words_of (sym is)

pub lost : (message : Option Content) → IsFrameOf message Is.Lost → (bytes : List ℕ) × (text_in message ≡ bytes ∷ [])
lost None is = absurd (cc is)
lost (Some (text bytes)) is = (bytes, refl)
lost (Some (binary bytes)) is = absurd (cc is)
lost (Some (ping bytes)) is = absurd (cc is)
lost (Some (pong bytes)) is = absurd (cc is)
lost (Some (close reason)) is = absurd (cc is)

-- frames were read from one state on, and their replies are behind what waited
pub record Read (old mid : Socket) (words : List (List ℕ)) : Type 0 where
  pub frames : Run
  pub conn : Connection
  pub rest : List ℕ
  pub runs : Runs old.context old.input.items frames conn rest
  pub found : texts frames ≡ words
  pub state : mid.context ≡ conn
  pub input : mid.input.items ≡ rest
  pub output : mid.output.items ≡ old.output.items ++ replies frames

-- with one frame more
pub one-more : (old mid : Socket) (frame : Frame) (frames : Run) (conn : Connection) (rest : List ℕ) → Runs old.context old.input.items frames conn rest
    → texts frames ≡ [] → (last : TakesWhole conn rest (old.output.items ++ replies frames) mid frame) → Read old mid (text_in last.taken.1.message)
one-more old mid frame frames conn rest runs quiet last = record {
  frames = frames ++ last.taken ∷ [];
  conn = last.taken.1.next;
  rest = drop last.taken.0 rest;
  runs = runs-snoc old.context conn old.input.items rest frames last.taken runs last.read;
  found = texts-snoc frames last.taken ∙ ap (λ l. l ++ text_in last.taken.1.message) quiet;
  state = last.state;
  input = last.rest;
  output = last.reply ∙ append_assoc old.output.items (replies frames) (reply_bytes last.taken.1.reply)
      ∙ ap (λ l. old.output.items ++ l) (sym (replies-snoc frames last.taken));
}

pub one-more-told : (old mid : Socket) (frame : Frame) (frames : Run) (conn : Connection) (rest : List ℕ) → Runs old.context old.input.items frames conn rest
    → texts frames ≡ [] → TakesWhole conn rest (old.output.items ++ replies frames) mid frame → frame ≢ Is.Lost → Read old mid (words_of frame)
one-more-told old mid frame frames conn rest runs quiet last kept =
    subst (λ (l : List (List ℕ)). Read old mid l) (told last.taken.1.message frame last.is kept) (one-more old mid frame frames conn rest runs quiet last)

pub read-none : (old mid : Socket) (frames : Run) (conn : Connection) (rest : List ℕ) → Runs old.context old.input.items frames conn rest → texts frames ≡ []
    → TakesNothing conn rest (old.output.items ++ replies frames) mid → Read old mid []
read-none old mid frames conn rest runs quiet same =
    record { frames = frames; conn = conn; rest = rest; runs = runs; found = quiet; state = same.0; input = same.1; output = same.2 }

-- a text was given, and nothing else became of it
pub gives-text : (old new : Socket) (words : List ℕ) → old.is_over ≡ false → new.is_over ≡ false → Read old new (words ∷ []) → Gives old new (Some words)
gives-text old new words was is read = record {
  frames = read.frames;
  conn = read.conn;
  rest = read.rest;
  runs = read.runs;
  texts = inl read.found;
  stands = λ still. (read.state, read.input, read.output);
  over = λ now. cc (is, now);
  waits = λ none. cc none;
  ended = λ before. cc (was, before);
}

-- no whole frame is left
pub gives-waits : (old new : Socket) (needed : ℕ) (frames : Run) (conn : Connection) (rest : List ℕ) → old.is_over ≡ false → new.is_over ≡ false
    → Runs old.context old.input.items frames conn rest → texts frames ≡ [] → TakesNothing conn rest (old.output.items ++ replies frames) new
    → read_step conn rest ≡ Ok (Partial needed) → Gives old new None
gives-waits old new needed frames conn rest was is runs quiet same waits = record {
  frames = frames;
  conn = conn;
  rest = rest;
  runs = runs;
  texts = inl quiet;
  stands = λ still. same;
  over = λ now. cc (is, now);
  waits = λ none still. (needed, waits);
  ended = λ before. cc (was, before);
}

-- it is over, with a close frame or without
pub gives-over : (old mid new : Socket) (code : CloseCode) → old.is_over ≡ false → new.is_over ≡ true → Read old mid []
    → ClosesBy code mid.output.items new.output.items → Gives old new None
gives-over old mid new code was is read closes = record {
  frames = read.frames;
  conn = read.conn;
  rest = read.rest;
  runs = read.runs;
  texts = inl read.found;
  stands = λ still. cc (is, still);
  over = λ now. (code, subst (λ (l : List ℕ). ClosesBy code l new.output.items) read.output closes);
  waits = λ none still. cc (is, still);
  ended = λ before. cc (was, before);
}

-- it is over, and a text is lost
pub gives-lost : (old mid new : Socket) (code : CloseCode) (bytes : List ℕ) → old.is_over ≡ false → new.is_over ≡ true → Read old mid (bytes ∷ [])
    → new.output.items ≡ mid.output.items → Gives old new None
gives-lost old mid new code bytes was is read same = record {
  frames = read.frames;
  conn = read.conn;
  rest = read.rest;
  runs = read.runs;
  texts = inr (is, refl, (bytes, read.found));
  stands = λ still. cc (is, still);
  over = λ now. (code, inl (same ∙ read.output));
  waits = λ none still. cc (is, still);
  ended = λ before. cc (was, before);
}

-- what was read before a frame that failed
pub gives-failed : (old mid new : Socket) (code : CloseCode) (frames : Run) (conn : Connection) (rest : List ℕ) → old.is_over ≡ false → new.is_over ≡ true
    → Runs old.context old.input.items frames conn rest → texts frames ≡ [] → mid.output.items ≡ old.output.items ++ replies frames
    → ClosesBy code mid.output.items new.output.items → Gives old new None
gives-failed old mid new code frames conn rest was is runs quiet output closes = record {
  frames = frames;
  conn = conn;
  rest = rest;
  runs = runs;
  texts = inl quiet;
  stands = λ still. cc (is, still);
  over = λ now. (code, subst (λ (l : List ℕ). ClosesBy code l new.output.items) output closes);
  waits = λ none still. cc (is, still);
  ended = λ before. cc (was, before);
}

-- it was over before
pub gives-nothing : (old new : Socket) → old.is_over ≡ true → IsSame old new → Gives old new None
gives-nothing old new was same =
    let over : new.is_over ≡ true = same.3 ∙ was in
    record {
      frames = [];
      conn = old.context;
      rest = old.input.items;
      runs = (refl, refl);
      texts = inl refl;
      stands = λ still. cc (over, still);
      over = λ now. (Code.Normal, inl (same.2 ∙ sym (append-nil old.output.items)));
      waits = λ none still. cc (over, still);
      ended = λ before. (refl, same);
    }
