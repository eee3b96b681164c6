-- What a socket gives over its whole life.
use Rattle.std.proofs.Common.{ℕ, ◌≡◌, inl, inr, List, [], ◌∷◌, ◌++◌, Bool, true, false, not, ◌&&◌, Option, None, Some, Ok, Err, refl, sym, ap, ◌∙◌, append_assoc, append-nil, subst}
use Rattle.std.proofs.lemmas.Bool.{cases_Bool}
use Rattle.websocket.specs.Content.{Content, text, binary, ping, pong, close}
use Rattle.websocket.specs.Connection.{Connection, can_write}
use Rattle.lobby_web.specs.declared.socket.Socket.{Socket}
use Rattle.lobby_web.specs.declared.socket.Heard.TheVariants.{Opened, Text as Words}
use Rattle.lobby_web.specs.declared.socket.Unsaid.TheVariants.{NotOpen, NotText, Slow, Memory}
use Rattle.lobby_web.specs.Frames.{Run, Runs, texts}
use Rattle.lobby_web.specs.Talking.{Gives, GivesTexts, given, may_say, said_state}
use Rattle.lobby_web.specs.Happening.{SocketStep, came, asked, said, wrote, Does, Happen, bytes_in, all_bytes, texts_given, all_texts, is_close, KeepsOpen, AllKeepOpen, AreGiven, Heeds}
use Rattle.lobby_web.proofs.RunLemmas.{runs-more, runs-join, texts-append}

shut : (s : Socket) → s.is_over ≡ true → may_say s ≡ true → ⊥
shut s over may = cc (ap (λ b. not b && can_write s.context.state) over, may)

-- what is over stays over, and gives nothing
stays-over : (event : SocketStep) (old new : Socket) → Does event old new → old.is_over ≡ true → (new.is_over ≡ true) × (texts_given event ≡ [])
stays-over (came bytes) old new does over =
    elim does.1 [
      | inl now ↦ (now, refl)
      | inr taken ↦ (taken.3 ∙ over, refl)
    ]
stays-over (asked None) old new does over = ((does.1.ended over).1.3 ∙ over, refl)
stays-over (asked (Some Opened)) old new does over = (does.1.3 ∙ over, refl)
stays-over (asked (Some (Words found))) old new does over = absurd (cc (does.1.ended over).0)
stays-over (said content (Ok x)) old new does over = absurd (shut old over does.0)
stays-over (said content (Err NotOpen)) old new does over = (does.1.3 ∙ over, refl)
stays-over (said content (Err NotText)) old new does over = absurd does
stays-over (said content (Err Slow)) old new does over = absurd (shut old over does.0)
stays-over (said content (Err Memory)) old new does over = absurd (shut old over does.0)
stays-over (wrote bytes) old new does over = (does.1.2 ∙ over, refl)

silent : (events : List SocketStep) (old new : Socket) → Happen events old new → old.is_over ≡ true → (new.is_over ≡ true) × (all_texts events ≡ [])
silent [] old new happen over = (ap (λ (s : Socket). s.is_over) happen ∙ over, refl)
silent (event ∷ events) old new happen over =
    let first = stays-over event old happen.0 happen.1 over in
    let next = silent events happen.0 new happen.2 first.0 in
    (next.0, ap (λ l. l ++ all_texts events) first.1 ∙ next.1)

-- ---- what is read

unread : (conn : Connection) (bytes : List ℕ) (told : List (List ℕ)) (new : Socket) → new.is_over ≡ true → told ≡ [] → Heeds conn bytes told new
unread conn bytes told new over none =
    record { frames = []; after = conn; rest = bytes; runs = (refl, refl); texts = inl (sym none); stands = λ still. cc (over, still) }

same-heeds : (old mid new : Socket) (bytes : List ℕ) (told : List (List ℕ)) → mid.context ≡ old.context → mid.input.items ≡ old.input.items
    → Heeds mid.context (mid.input.items ++ bytes) told new → Heeds old.context (old.input.items ++ bytes) told new
same-heeds old mid new bytes told conn input heeds =
    subst (λ (c : Connection). Heeds c (old.input.items ++ bytes) told new) conn
    (subst (λ (i : List ℕ). Heeds mid.context (i ++ bytes) told new) input heeds)

given-over : (frames : Run) (words : Option (List ℕ)) (more : List (List ℕ)) (mid new : Socket) → GivesTexts frames words mid.is_over → more ≡ []
    → new.is_over ≡ true → AreGiven frames (given words ++ more) new.is_over
given-over frames words more mid new (inl all) none over = inl (all ∙ sym (append-nil (given words)) ∙ ap (λ l. given words ++ l) (sym none))
given-over frames words more mid new (inr lost) none over =
    inr (over, (lost.2.0, lost.2.1 ∙ ap (λ l. l ++ lost.2.0 ∷ []) (sym (ap (λ l. given words ++ l) none ∙ append-nil (given words) ∙ ap given lost.1))))

given-open : (frames more : Run) (words : Option (List ℕ)) (rest : List (List ℕ)) (over last : Bool) → GivesTexts frames words over → over ≡ false
    → AreGiven more rest last → AreGiven (frames ++ more) (given words ++ rest) last
given-open frames more words rest over last (inr lost) still next = cc (lost.0, still)
given-open frames more words rest over last (inl all) still (inl next) = inl (texts-append frames more ∙ ap (λ l. l ++ texts more) all ∙ ap (λ l. given words ++ l) next)
given-open frames more words rest over last (inl all) still (inr lost) =
    inr (lost.0, (lost.1.0, texts-append frames more ∙ ap (λ l. l ++ texts more) all ∙ ap (λ l. given words ++ l) lost.1.1 ∙ sym (append_assoc (given words) rest (lost.1.0 ∷ []))))

gives-over : (old mid new : Socket) (words : Option (List ℕ)) (bytes : List ℕ) (more : List (List ℕ)) → Gives old mid words → new.is_over ≡ true → more ≡ []
    → Heeds old.context (old.input.items ++ bytes) (given words ++ more) new
gives-over old mid new words bytes more gives over none = record {
  frames = gives.frames;
  after = gives.conn;
  rest = gives.rest ++ bytes;
  runs = runs-more old.context gives.conn old.input.items gives.rest bytes gives.frames gives.runs;
  texts = given-over gives.frames words more mid new gives.texts none over;
  stands = λ still. cc (over, still);
}

gives-open : (old mid new : Socket) (words : Option (List ℕ)) (bytes : List ℕ) (more : List (List ℕ)) → Gives old mid words → mid.is_over ≡ false
    → Heeds mid.context (mid.input.items ++ bytes) more new → Heeds old.context (old.input.items ++ bytes) (given words ++ more) new
gives-open old mid new words bytes more gives still heeds =
    let stands = gives.stands still in
    let first = runs-more old.context gives.conn old.input.items gives.rest bytes gives.frames gives.runs in
    let second : Runs gives.conn (gives.rest ++ bytes) heeds.frames heeds.after heeds.rest =
    subst (λ (c : Connection). Runs c (gives.rest ++ bytes) heeds.frames heeds.after heeds.rest) stands.0
    (subst (λ (i : List ℕ). Runs mid.context (i ++ bytes) heeds.frames heeds.after heeds.rest) stands.1 heeds.runs) in
    record {
      frames = gives.frames ++ heeds.frames;
      after = heeds.after;
      rest = heeds.rest;
      runs = runs-join old.context gives.conn heeds.after (old.input.items ++ bytes) (gives.rest ++ bytes) heeds.rest gives.frames heeds.frames first second;
      texts = given-open gives.frames heeds.frames words more mid.is_over new.is_over gives.texts still heeds.texts;
      stands = heeds.stands;
    }

said-same : (content : Content) (conn : Connection) → is_close content ≡ false → said_state content conn ≡ conn
said-same (text bytes) conn h = refl
said-same (binary bytes) conn h = refl
said-same (ping bytes) conn h = refl
said-same (pong bytes) conn h = refl
said-same (close frame) conn h = cc

-- one event, and then the others
heeds-event : (event : SocketStep) (events : List SocketStep) (old mid new : Socket) → KeepsOpen event → Does event old mid
    → (mid.is_over ≡ true → (new.is_over ≡ true) × (all_texts events ≡ []))
    → Heeds mid.context (mid.input.items ++ all_bytes events) (all_texts events) new
    → Heeds old.context (old.input.items ++ (bytes_in event ++ all_bytes events)) (texts_given event ++ all_texts events) new
heeds-event (came bytes) events old mid new keeps does over heeds =
    elim does.1 [
      | inl now ↦ unread old.context _ _ new (over now).0 (over now).1
      | inr taken ↦
          subst (λ (i : List ℕ). Heeds old.context i (all_texts events) new) (append_assoc old.input.items bytes (all_bytes events))
          (subst (λ (c : Connection). Heeds c ((old.input.items ++ bytes) ++ all_bytes events) (all_texts events) new) taken.1
          (subst (λ (i : List ℕ). Heeds mid.context (i ++ all_bytes events) (all_texts events) new) taken.2 heeds))
    ]
heeds-event (asked None) events old mid new keeps does over heeds =
    elim (cases_Bool mid.is_over) [
      | inl now ↦ gives-over old mid new None (all_bytes events) (all_texts events) does.1 (over now).0 (over now).1
      | inr still ↦ gives-open old mid new None (all_bytes events) (all_texts events) does.1 still heeds
    ]
heeds-event (asked (Some Opened)) events old mid new keeps does over heeds =
    same-heeds old mid new (all_bytes events) (all_texts events) does.1.0 does.1.1 heeds
heeds-event (asked (Some (Words found))) events old mid new keeps does over heeds =
    elim (cases_Bool mid.is_over) [
      | inl now ↦ gives-over old mid new (Some found.items) (all_bytes events) (all_texts events) does.1 (over now).0 (over now).1
      | inr still ↦ gives-open old mid new (Some found.items) (all_bytes events) (all_texts events) does.1 still heeds
    ]
heeds-event (said content (Ok x)) events old mid new keeps does over heeds =
    same-heeds old mid new (all_bytes events) (all_texts events) (does.1 ∙ said-same content old.context keeps) does.2 heeds
heeds-event (said content (Err NotOpen)) events old mid new keeps does over heeds =
    same-heeds old mid new (all_bytes events) (all_texts events) does.1.0 does.1.1 heeds
heeds-event (said content (Err NotText)) events old mid new keeps does over heeds = absurd does
heeds-event (said content (Err Slow)) events old mid new keeps does over heeds = unread old.context _ _ new (over does.2).0 (over does.2).1
heeds-event (said content (Err Memory)) events old mid new keeps does over heeds = unread old.context _ _ new (over does.1).0 (over does.1).1
heeds-event (wrote bytes) events old mid new keeps does over heeds =
    same-heeds old mid new (all_bytes events) (all_texts events) does.1.0 does.1.1 heeds

pub heeded : (events : List SocketStep) (old new : Socket) → AllKeepOpen events → Happen events old new
    → Heeds old.context (old.input.items ++ all_bytes events) (all_texts events) new
heeded [] old new keeps happen =
    record {
      frames = [];
      after = old.context;
      rest = old.input.items ++ [];
      runs = (refl, refl);
      texts = inl refl;
      stands = λ still. (ap (λ (s : Socket). s.context) happen, ap (λ (s : Socket). s.input.items) happen ∙ sym (append-nil old.input.items));
    }
heeded (event ∷ events) old new keeps happen =
    heeds-event event events old happen.0 new keeps.0 happen.1 (λ over. silent events happen.0 new happen.2 over)
    (heeded events happen.0 new keeps.1 happen.2)
