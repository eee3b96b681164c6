-- What a browser's bytes say, by what was done at its connection.
use Rattle.std.proofs.Common.{◌≡◌, ℕ, Bool, true, false, inl, inr, ◌⊎◌, List, [], ◌∷◌, ◌++◌, Option, None, Some, Result, Ok, Err, take, refl, ap, sym, ◌∙◌, subst, append_assoc, append-nil, Vec, Global}
use Rattle.std.proofs.lemmas.Bool.{cases_Bool, false≢true}
use Rattle.std.proofs.lemmas.List.{take-append-drop}
use Rattle.websocket.specs.Content.{Content}
use Rattle.http_server.specs.declared.state.Config.{Config}
use Rattle.http_server.specs.declared.connection.Connection.{Connection}
use Rattle.http_server.specs.Connection.{config_of, history}
use Rattle.http_server.specs.Exchange.{Call}
use Rattle.http_server.specs.History.{History, IsServed, after_read, after_sent}
use Rattle.lobby_web.specs.declared.browser.Stage.{Stage}
use Rattle.lobby_web.specs.declared.browser.Stage.TheVariants as At
use Rattle.lobby_web.specs.declared.site.Site.{Site}
use Rattle.lobby_web.specs.declared.socket.Socket.{Socket}
use Rattle.lobby_web.specs.declared.socket.Heard.{Heard}
use Rattle.lobby_web.specs.declared.socket.Heard.TheVariants as heards
use Rattle.lobby_web.specs.declared.socket.Unsaid.{Unsaid}
use Rattle.lobby_web.specs.declared.socket.Unsaid.TheVariants.{NotOpen, NotText, Slow, Memory}
use Rattle.lobby_web.specs.Browsing.{web_config, pending, AreAnswered, Serves, Answers, Stays, AnswersIf, IsNew, TakesBytes, HearsNext, SaysTo, Writes}
use Rattle.lobby_web.specs.Heading.{heading_of, is_read}
use Rattle.lobby_web.specs.Frames.{frames_bytes}
use Rattle.lobby_web.specs.Happening.{SocketStep, came, asked, said, wrote, Does, Happen, KeepsOpen, AllKeepOpen, Heeds, text_of, is_close}
use Rattle.lobby_web.specs.Happening as life
use Rattle.lobby_web.specs.Talking.{IsFresh, Hears, Says, may_say}
use Rattle.http_server.proofs.Theorems.{always_served}
use Rattle.lobby_web.proofs.LifeLemmas.{heeded}
use Rattle.lobby_web.proofs.SayingLemmas.{uttered}
use Rattle.lobby_web.proofs.ShutLemmas.{stays-shut, unsaid-shut}
use Rattle.lobby_desk.specs.Events.{MessageValue}
use Rattle.lobby_desk.specs.History.{Step}
use Rattle.lobby_loop.specs.Doing.{Doing, Took, Tried, Gave, WasTold, Wrote, Spot, HasDone, Before, around, has_opened, texts_more, texts_given, texts_told, IsLate, AreLate, IsServed as IsGuestServed}
use Rattle.lobby_loop.specs.Speaking.{bytes_came, bytes_written, texts_said, in_order, AreAnsweredBy, IsSiteIn, IsSilent, IsByHttp, IsSwitched, Speaks}

-- ---- one event more at a socket's end

happen_more : (events : List SocketStep) (e : SocketStep) (a b c : Socket) → Happen events a b → Does e b c → Happen (events ++ e ∷ []) a c
happen_more [] e a b c happen does = (c, subst (λ (s : Socket). Does e s c) happen does, refl)
happen_more (x ∷ xs) e a b c (mid, first, rest) does = (mid, first, happen_more xs e mid b c rest does)

keeps_more : (events : List SocketStep) (e : SocketStep) → AllKeepOpen events → KeepsOpen e → AllKeepOpen (events ++ e ∷ [])
keeps_more [] e all one = (one, tt)
keeps_more (x ∷ xs) e (first, all) one = (first, keeps_more xs e all one)

bytes_more : (events : List SocketStep) (e : SocketStep) → life.all_bytes (events ++ e ∷ []) ≡ life.all_bytes events ++ life.bytes_in e
bytes_more [] e = append-nil (life.bytes_in e)
bytes_more (x ∷ xs) e =
    ap (λ (l : List ℕ). life.bytes_in x ++ l) (bytes_more xs e)
    ∙ sym (append_assoc (life.bytes_in x) (life.all_bytes xs) (life.bytes_in e))

written_more : (events : List SocketStep) (e : SocketStep) → life.all_written (events ++ e ∷ []) ≡ life.all_written events ++ life.bytes_out e
written_more [] e = append-nil (life.bytes_out e)
written_more (x ∷ xs) e =
    ap (λ (l : List ℕ). life.bytes_out x ++ l) (written_more xs e)
    ∙ sym (append_assoc (life.bytes_out x) (life.all_written xs) (life.bytes_out e))

texts_given_more : (events : List SocketStep) (e : SocketStep) → life.all_texts (events ++ e ∷ []) ≡ life.all_texts events ++ life.texts_given e
texts_given_more [] e = append-nil (life.texts_given e)
texts_given_more (x ∷ xs) e =
    ap (λ (l : List (List ℕ)). life.texts_given x ++ l) (texts_given_more xs e)
    ∙ sym (append_assoc (life.texts_given x) (life.all_texts xs) (life.texts_given e))

texts_said_more : (events : List SocketStep) (e : SocketStep) → life.all_said (events ++ e ∷ []) ≡ life.all_said events ++ life.texts_said e
texts_said_more [] e = append-nil (life.texts_said e)
texts_said_more (x ∷ xs) e =
    ap (λ (l : List (List ℕ)). life.texts_said x ++ l) (texts_said_more xs e)
    ∙ sym (append_assoc (life.texts_said x) (life.all_said xs) (life.texts_said e))

-- ---- what is kept of a socket

-- what HTTP answered stays so, whatever is done later
answered_later : (d : Doing) (past : List Doing) (calls : List Call) → AreAnsweredBy past calls → AreAnsweredBy (d ∷ past) calls
answered_later (Took site bytes) past calls so = (calls, [], sym (append-nil calls), so, tt)
answered_later Tried past calls so = so
answered_later (Gave heard) past calls so = so
answered_later (WasTold content answer) past calls so = so
answered_later (Wrote site bytes) past calls so = (calls, [], sym (append-nil calls), so, tt)

site_later : (d : Doing) (past : List Doing) (site : Site) → IsSiteIn site past → IsSiteIn site (d ∷ past)
site_later (Took other bytes) past site is = inr is
site_later Tried past site is = is
site_later (Gave heard) past site is = is
site_later (WasTold content answer) past site is = is
site_later (Wrote other bytes) past site is = inr is

http_later : (d : Doing) (past : List Doing) (arrived written : List ℕ) (h : History) → IsByHttp past arrived written h →
    IsByHttp (d ∷ past) arrived written h
http_later d past arrived written h by = record {
  served = by.served;
  answered = answered_later d past h.calls by.answered;
  received = by.received;
  sent = by.sent;
}

switched_later : (d : Doing) (past : List Doing) (h : History) → IsSwitched past h → IsSwitched (d ∷ past) h
switched_later d past h by = record {
  before = by.before;
  last = by.last;
  calls = by.calls;
  status = by.status;
  site = by.site;
  among = site_later d past by.site by.among;
  granted = by.granted;
}

-- what it was to be told and was not
record Misses (past : List Doing) (socket : Socket) : Type 0 where
  missed : List (List ℕ)
  told : texts_told past ≡ texts_said past ++ missed
  while_open : (missed ≡ []) ⊎ (may_say socket ≡ false)

-- a socket behind HTTP's history, and what happened to it since
record OnSocket (past : List Doing) (socket : Socket) : Type 0 where
  last : History
  first : Socket
  front : List ℕ
  front_written : List ℕ
  http : IsByHttp past front front_written last
  switched : IsSwitched past last
  fresh : IsFresh first
  input : first.input.items ≡ last.unread
  output : first.output.items ≡ last.pending
  events : List SocketStep
  keeps : AllKeepOpen events
  happen : Happen events first socket
  came_is : bytes_came past ≡ front ++ life.all_bytes events
  written_is : bytes_written past ≡ front_written ++ life.all_written events
  given_is : life.all_texts events ≡ in_order (texts_given past)
  said_is : life.all_said events ≡ texts_said past
  untold : has_opened past ≡ false → socket.is_told ≡ false
  misses : Misses past socket

abbrev Stands : List Doing → Stage → Type 0
Stands past (At.Http connection) =
    (config_of connection ≡ web_config) × IsByHttp past (bytes_came past) (bytes_written past) (history connection) × IsSilent past
Stands past (At.Socket socket) = OnSocket past socket
Stands past At.Over = IsSilent past

-- how what was done and what happened agree
record Agrees (past : List Doing) (d : Doing) (e : SocketStep) : Type 0 where
  comes : bytes_came (d ∷ past) ≡ bytes_came past ++ life.bytes_in e
  writes : bytes_written (d ∷ past) ≡ bytes_written past ++ life.bytes_out e
  gives : in_order (texts_given (d ∷ past)) ≡ in_order (texts_given past) ++ life.texts_given e
  says : texts_said (d ∷ past) ≡ texts_said past ++ life.texts_said e

more_behind : {A : Type 0} (all front before one new : List A) → all ≡ front ++ before → new ≡ before ++ one →
    all ++ one ≡ front ++ new
more_behind all front before one new is more =
    ap (λ l. l ++ one) is ∙ (append_assoc front before one ∙ ap (λ l. front ++ l) (sym more))

on_more : (past : List Doing) (d : Doing) (e : SocketStep) (old new : Socket) → KeepsOpen e → Does e old new →
    Agrees past d e → (has_opened (d ∷ past) ≡ false → new.is_told ≡ false) → Misses (d ∷ past) new → OnSocket past old →
    OnSocket (d ∷ past) new
on_more past d e old new keeps does agrees untold misses was = record {
  last = was.last;
  first = was.first;
  front = was.front;
  front_written = was.front_written;
  http = http_later d past was.front was.front_written was.last was.http;
  switched = switched_later d past was.last was.switched;
  fresh = was.fresh;
  input = was.input;
  output = was.output;
  events = was.events ++ e ∷ [];
  keeps = keeps_more was.events e was.keeps keeps;
  happen = happen_more was.events e was.first old new was.happen does;
  came_is = agrees.comes ∙ more_behind (bytes_came past) was.front (life.all_bytes was.events) (life.bytes_in e)
      (life.all_bytes (was.events ++ e ∷ [])) was.came_is (bytes_more was.events e);
  written_is = agrees.writes ∙ more_behind (bytes_written past) was.front_written (life.all_written was.events) (life.bytes_out e)
      (life.all_written (was.events ++ e ∷ [])) was.written_is (written_more was.events e);
  given_is = texts_given_more was.events e ∙ (ap (λ (l : List (List ℕ)). l ++ life.texts_given e) was.given_is ∙ sym agrees.gives);
  said_is = texts_said_more was.events e ∙ (ap (λ (l : List (List ℕ)). l ++ life.texts_said e) was.said_is ∙ sym agrees.says);
  untold = untold;
  misses = misses;
}

-- nothing was to be told, and nothing was
misses_on : (past : List Doing) (d : Doing) (e : SocketStep) (old new : Socket) → Does e old new → texts_told (d ∷ past) ≡ texts_told past →
    texts_said (d ∷ past) ≡ texts_said past → Misses past old → Misses (d ∷ past) new
misses_on past d e old new does no_told no_said was = record {
  missed = was.missed;
  told = no_told ∙ (was.told ∙ ap (λ (l : List (List ℕ)). l ++ was.missed) (sym no_said));
  while_open = elim was.while_open [ inl none ↦ inl none | inr shut ↦ inr (stays-shut e old new does shut) ];
}

-- this was to be told, and was or was not
misses_said : (past : List Doing) (content : Content) (old new : Socket) (x : Unit {0}) → Does (said content (Ok x)) old new →
    Misses past old → Misses (WasTold content (Ok x) ∷ past) new
misses_said past content old new x does was =
    let none : was.missed ≡ [] = elim was.while_open [ inl none ↦ none | inr shut ↦ absurd (false≢true (sym shut ∙ does.0)) ] in
    let all : texts_told past ≡ texts_said past = was.told ∙ (ap (λ (l : List (List ℕ)). texts_said past ++ l) none ∙ append-nil (texts_said past)) in
    record {
      missed = [];
      told = ap (λ (l : List (List ℕ)). l ++ text_of content) all ∙ sym (append-nil (texts_said past ++ text_of content));
      while_open = inl refl;
    }

misses_unsaid : (past : List Doing) (content : Content) (old new : Socket) (why : Unsaid) → Does (said content (Err why)) old new →
    Misses past old → Misses (WasTold content (Err why) ∷ past) new
misses_unsaid past content old new why does was = record {
  missed = was.missed ++ text_of content;
  told = ap (λ (l : List (List ℕ)). l ++ text_of content) was.told
      ∙ (append_assoc (texts_said past) was.missed (text_of content)
      ∙ ap (λ (l : List (List ℕ)). l ++ (was.missed ++ text_of content)) (sym (append-nil (texts_said past))));
  while_open = inr (unsaid-shut content old new why does);
}

-- ---- a socket that begins

-- what HTTP answered of these bytes
http_on : (config : Config) (q : List Doing) (old new : History) (front gone : List ℕ) (site : Site) → config ≡ web_config →
    ((calls : List Call) → new.calls ≡ old.calls ++ calls → AreAnswered site calls → AreAnsweredBy q new.calls) →
    old.received ≡ front → old.sent ≡ gone → Serves config site old new → IsByHttp q front gone new
http_on config q old new front gone site is joins received sent serves = record {
  served = inr (subst (λ (c : Config). ∥ IsServed c new ∥₁) is serves.served);
  answered = joins serves.calls serves.called serves.answered;
  received = serves.received.0 ∙ received;
  sent = serves.received.1 ∙ sent;
}

answers_on : (site : Site) (q : List Doing) (c : Connection) (old : History) (b : Stage) → config_of c ≡ web_config →
    ((new calls : List Call) → new ≡ old.calls ++ calls → AreAnswered site calls → AreAnsweredBy q new) → IsSiteIn site q →
    old.received ≡ bytes_came q → old.sent ≡ bytes_written q → IsSilent q → Answers (config_of c) site old b → Stands q b
answers_on site q c old (At.Http next) is joins among received sent silent (config, serves, not_switched) = (
  config ∙ is,
  http_on (config_of c) q old (history next) (bytes_came q) (bytes_written q) site is (joins (history next).calls) received sent serves,
  silent,
)
answers_on site q c old (At.Socket socket) is joins among received sent silent hands = record {
  last = hands.last;
  first = socket;
  front = bytes_came q;
  front_written = bytes_written q;
  http = http_on (config_of c) q old hands.last (bytes_came q) (bytes_written q) site is (joins hands.last.calls) received sent hands.serves;
  switched = record {
    before = hands.granted.0;
    last = hands.granted.1;
    calls = hands.granted.2;
    status = hands.granted.3;
    site = site;
    among = among;
    granted = hands.granted.4;
  };
  fresh = hands.fresh;
  input = hands.input;
  output = hands.output;
  events = [];
  keeps = tt;
  happen = refl;
  came_is = sym (append-nil (bytes_came q));
  written_is = sym (append-nil (bytes_written q));
  given_is = ap in_order (sym silent.given);
  said_is = sym silent.said;
  untold = λ closed. hands.fresh.untold;
  misses = record { missed = []; told = silent.told ∙ ap (λ (l : List (List ℕ)). l ++ []) (sym silent.said); while_open = inl refl };
}
answers_on site q c old At.Over is joins among received sent silent any = silent

-- ---- one thing more that was done

-- what came by HTTP is not read yet
stays_on : (site : Site) (bytes : List ℕ) (past : List Doing) (c : Connection) (b : Stage) →
    Stays (config_of c) (after_read (history c) bytes) b → Stands past (At.Http c) → Stands (Took site bytes ∷ past) b
stays_on site bytes past c (At.Http next) (config, same) (is, http, silent) = (
  config ∙ is,
  record {
    served = inr (subst (λ (k : Config). ∥ IsServed k (history next) ∥₁) (config ∙ is) (always_served next));
    answered = (
      (history c).calls,
      [],
      ap (λ (h : History). h.calls) same ∙ sym (append-nil (history c).calls),
      http.answered,
      tt,
    );
    received = ap (λ (h : History). h.received) same ∙ ap (λ (l : List ℕ). l ++ bytes) http.received;
    sent = ap (λ (h : History). h.sent) same ∙ http.sent;
  },
  record { closed = silent.closed; given = silent.given; told = silent.told; said = silent.said },
)
stays_on site bytes past c (At.Socket socket) stays was = absurd stays
stays_on site bytes past c At.Over stays (is, http, silent) =
    record { closed = silent.closed; given = silent.given; told = silent.told; said = silent.said }

took_http : (is_read : Bool) (site : Site) (bytes : List ℕ) (past : List Doing) (c : Connection) (b : Stage) →
    AnswersIf is_read (config_of c) site (after_read (history c) bytes) b → Stands past (At.Http c) →
    Stands (Took site bytes ∷ past) b
took_http false site bytes past c b stays was = stays_on site bytes past c b stays was
took_http true site bytes past c b takes (is, http, silent) =
    answers_on site (Took site bytes ∷ past) c (after_read (history c) bytes) b is
    (λ new calls so more. ((history c).calls, calls, so, http.answered, more)) (inl refl)
    (ap (λ (l : List ℕ). l ++ bytes) http.received) http.sent
    (record { closed = silent.closed; given = silent.given; told = silent.told; said = silent.said }) takes

took_on : (site : Site) (bytes : List ℕ) (past : List Doing) (a b : Stage) → TakesBytes site bytes a b → Stands past a →
    Stands (Took site bytes ∷ past) b
took_on site bytes past (At.Http c) b takes was =
    took_http (is_read (heading_of (history c).received) bytes) site bytes past c b takes was
took_on site bytes past (At.Socket old) b (new, is, takes) was =
    subst (λ (s : Stage). Stands (Took site bytes ∷ past) s) (sym is)
    (on_more past (Took site bytes) (came bytes) old new tt takes (record {
      comes = refl;
      writes = sym (append-nil (bytes_written past));
      gives = sym (append-nil (in_order (texts_given past)));
      says = sym (append-nil (texts_said past));
    }) (λ closed. takes.2 ∙ was.untold closed) (misses_on past (Took site bytes) (came bytes) old new takes refl refl was.misses) was)
took_on site bytes past At.Over b takes was = absurd takes

wrote_on : (site : Site) (count : ℕ) (past : List Doing) (a b : Stage) → Writes site count a b → Stands past a →
    Stands (Wrote site (take count (pending a)) ∷ past) b
wrote_on site count past (At.Http c) b writes (is, http, silent) =
    answers_on site (Wrote site (take count (history c).pending) ∷ past) c (after_sent (history c) count) b is
    (λ new calls so more. ((history c).calls, calls, so, http.answered, more)) (inl refl)
    http.received (ap (λ (l : List ℕ). l ++ take count (history c).pending) http.sent)
    (record { closed = silent.closed; given = silent.given; told = silent.told; said = silent.said }) writes
wrote_on site count past (At.Socket old) b (new, is, output, keeps) was =
    let bytes = take count old.output.items in
    let does : Does (wrote bytes) old new =
    (sym (take-append-drop count old.output.items) ∙ ap (λ (l : List ℕ). bytes ++ l) (sym output), keeps) in
    subst (λ (s : Stage). Stands (Wrote site bytes ∷ past) s) (sym is)
    (on_more past (Wrote site bytes) (wrote bytes) old new tt does (record {
      comes = sym (append-nil (bytes_came past));
      writes = refl;
      gives = sym (append-nil (in_order (texts_given past)));
      says = sym (append-nil (texts_said past));
    }) (λ closed. keeps.3 ∙ was.untold closed) (misses_on past (Wrote site bytes) (wrote bytes) old new does refl refl was.misses) was)
wrote_on site count past At.Over b writes was =
    subst (λ (s : Stage). Stands (Wrote site (take count []) ∷ past) s) (sym writes)
    (record { closed = was.closed; given = was.given; told = was.told; said = was.said })

-- the texts that a socket gave behind that it was told to be open
text_given : (past : List Doing) (text : Vec ℕ Global) (opened : Bool) → opened ≡ true →
    in_order (texts_more (Some (heards.Text text)) opened (texts_given past)) ≡ in_order (texts_given past) ++ text.items ∷ []
text_given past text true is = refl
text_given past text false is = absurd (false≢true is)

was_opened : (past : List Doing) (told : Bool) → told ≡ true → (has_opened past ≡ false → told ≡ false) → has_opened past ≡ true
was_opened past told is untold = elim (cases_Bool (has_opened past)) [
  | inl opened ↦ opened
  | inr closed ↦ absurd (false≢true (sym (untold closed) ∙ is))
]

heard_on : (heard : Option Heard) (past : List Doing) (old new : Socket) → Hears old new heard →
    OnSocket past old → OnSocket (Gave heard ∷ past) new
heard_on None past old new hears was =
    let opened = was_opened past old.is_told hears.0 was.untold in
    on_more past (Gave None) (asked None) old new tt hears (record {
      comes = sym (append-nil (bytes_came past));
      writes = sym (append-nil (bytes_written past));
      gives = sym (append-nil (in_order (texts_given past)));
      says = sym (append-nil (texts_said past));
    }) (λ closed. absurd (false≢true (sym closed ∙ opened))) (misses_on past (Gave None) (asked None) old new hears refl refl was.misses) was
heard_on (Some heards.Opened) past old new hears was =
    on_more past (Gave (Some heards.Opened)) (asked (Some heards.Opened)) old new tt hears (record {
      comes = sym (append-nil (bytes_came past));
      writes = sym (append-nil (bytes_written past));
      gives = sym (append-nil (in_order (texts_given past)));
      says = sym (append-nil (texts_said past));
    }) (λ closed. absurd (false≢true (sym closed)))
    (misses_on past (Gave (Some heards.Opened)) (asked (Some heards.Opened)) old new hears refl refl was.misses) was
heard_on (Some (heards.Text text)) past old new hears was =
    let opened = was_opened past old.is_told hears.0 was.untold in
    on_more past (Gave (Some (heards.Text text))) (asked (Some (heards.Text text))) old new tt hears (record {
      comes = sym (append-nil (bytes_came past));
      writes = sym (append-nil (bytes_written past));
      gives = text_given past text (has_opened past) opened;
      says = sym (append-nil (texts_said past));
    }) (λ closed. absurd (false≢true (sym closed ∙ opened)))
    (misses_on past (Gave (Some (heards.Text text))) (asked (Some (heards.Text text))) old new hears refl refl was.misses) was

gave_on : (heard : Option Heard) (past : List Doing) (a b : Stage) → HearsNext a b heard → Stands past a →
    Stands (Gave heard ∷ past) b
gave_on heard past (At.Http c) b (none, same) (is, http, silent) =
    subst (λ (s : Stage). Stands (Gave heard ∷ past) s) (sym same)
    (subst (λ (h : Option Heard). Stands (Gave h ∷ past) (At.Http c)) (sym none)
    (is, http_later (Gave None) past (bytes_came past) (bytes_written past) (history c) http, record { closed = silent.closed; given = silent.given; told = silent.told; said = silent.said }))
gave_on heard past (At.Socket old) b (new, is, hears) was =
    subst (λ (s : Stage). Stands (Gave heard ∷ past) s) (sym is) (heard_on heard past old new hears was)
gave_on heard past At.Over b (none, same) silent =
    subst (λ (s : Stage). Stands (Gave heard ∷ past) s) (sym same)
    (subst (λ (h : Option Heard). Stands (Gave h ∷ past) At.Over) (sym none)
    (record { closed = silent.closed; given = silent.given; told = silent.told; said = silent.said }))

-- what was to be told before the socket was open is no text
silent_told : (content : Content) (past : List Doing) → IsLate content (has_opened past) → IsSilent past →
    IsSilent (WasTold content (Err NotOpen) ∷ past)
silent_told content past late silent =
    let none : text_of content ≡ [] = elim late [ inl none ↦ none | inr opened ↦ absurd (false≢true (sym silent.closed ∙ opened)) ] in
    record {
      closed = silent.closed;
      given = silent.given;
      told = ap (λ (l : List (List ℕ)). l ++ text_of content) silent.told ∙ none;
      said = append-nil (texts_said past) ∙ silent.said;
    }

told_misses : (content : Content) (answer : Result (Unit {0}) Unsaid) (past : List Doing) (old new : Socket) →
    Says content old new answer → Misses past old → Misses (WasTold content answer ∷ past) new
told_misses content (Ok x) past old new says was = misses_said past content old new x says was
told_misses content (Err why) past old new says was = misses_unsaid past content old new why says was

still_told : (content : Content) (answer : Result (Unit {0}) Unsaid) (old new : Socket) → Says content old new answer →
    new.is_told ≡ old.is_told
still_told content (Ok x) old new says = says.4
still_told content (Err NotOpen) old new says = says.2
still_told content (Err NotText) old new says = absurd says
still_told content (Err Slow) old new says = says.4
still_told content (Err Memory) old new says = says.3

told_on : (content : Content) (answer : Result (Unit {0}) Unsaid) (past : List Doing) (a b : Stage) → is_close content ≡ false →
    IsLate content (has_opened past) → SaysTo content a b answer → Stands past a → Stands (WasTold content answer ∷ past) b
told_on content answer past (At.Http c) b keeps late (not_open, same) (is, http, silent) =
    subst (λ (s : Stage). Stands (WasTold content answer ∷ past) s) (sym same)
    (subst (λ (r : Result (Unit {0}) Unsaid). Stands (WasTold content r ∷ past) (At.Http c)) (sym not_open) (
      is,
      http_later (WasTold content (Err NotOpen)) past (bytes_came past) (bytes_written past) (history c) http,
      silent_told content past late silent,
    ))
told_on content answer past (At.Socket old) b keeps late (new, is, says) was =
    subst (λ (s : Stage). Stands (WasTold content answer ∷ past) s) (sym is)
    (on_more past (WasTold content answer) (said content answer) old new keeps says (record {
      comes = sym (append-nil (bytes_came past));
      writes = sym (append-nil (bytes_written past));
      gives = sym (append-nil (in_order (texts_given past)));
      says = refl;
    }) (λ closed. still_told content answer old new says ∙ was.untold closed) (told_misses content answer past old new says was.misses) was)
told_on content answer past At.Over b keeps late (not_open, same) silent =
    subst (λ (s : Stage). Stands (WasTold content answer ∷ past) s) (sym same)
    (subst (λ (r : Result (Unit {0}) Unsaid). Stands (WasTold content r ∷ past) At.Over) (sym not_open)
    (silent_told content past late silent))

-- a socket that was tried for nothing
tried_on : (past : List Doing) (a : Stage) → Stands past a → Stands (Tried ∷ past) a
tried_on past (At.Http c) (is, http, silent) =
    (is, http_later Tried past (bytes_came past) (bytes_written past) (history c) http, record { closed = silent.closed; given = silent.given; told = silent.told; said = silent.said })
tried_on past (At.Socket socket) was = record {
  last = was.last;
  first = was.first;
  front = was.front;
  front_written = was.front_written;
  http = http_later Tried past was.front was.front_written was.last was.http;
  switched = switched_later Tried past was.last was.switched;
  fresh = was.fresh;
  input = was.input;
  output = was.output;
  events = was.events;
  keeps = was.keeps;
  happen = was.happen;
  came_is = was.came_is;
  written_is = was.written_is;
  given_is = was.given_is;
  said_is = was.said_is;
  untold = was.untold;
  misses = record { missed = was.misses.missed; told = was.misses.told; while_open = was.misses.while_open };
}
tried_on past At.Over silent = record { closed = silent.closed; given = silent.given; told = silent.told; said = silent.said }

-- a connection that begins
begins_at : (a : Stage) → IsNew a → Stands [] a
begins_at (At.Http c) (config, new) = (
  config,
  subst (λ (h : History). IsByHttp [] [] [] h) (sym new) (record { served = inl refl; answered = refl; received = refl; sent = refl }),
  record { closed = refl; given = refl; told = refl; said = refl },
)
begins_at (At.Socket socket) never = absurd never
begins_at At.Over never = absurd never

-- ---- all that was done

module _ {S : Type 0} (remaining contents : S → Option (List ℕ)) (first : Spot S) (new : IsNew first.stage) where
  stands_at : (past : List Doing) (now : Spot S) → HasDone remaining contents first past now → AreLate past →
      Stands past now.stage
  stands_at [] now (same, still) late = subst (λ (s : Stage). Stands [] s) (sym same) (begins_at first.stage new)
  stands_at (Took site bytes ∷ past) now (before, done, (consumed, wants, takes)) late =
      took_on site bytes past before.stage now.stage (takes.wanted wants) (stands_at past before done late)
  stands_at (Tried ∷ past) now (before, done, (same, nothing)) late =
      subst (λ (s : Stage). Stands (Tried ∷ past) s) (sym same) (tried_on past before.stage (stands_at past before done late))
  stands_at (Gave heard ∷ past) now (before, done, (same, hears)) late =
      gave_on heard past before.stage now.stage hears (stands_at past before done late)
  stands_at (WasTold content answer ∷ past) now (before, done, (same, keeps, says)) (one, late) =
      told_on content answer past before.stage now.stage keeps one says (stands_at past before done late)
  stands_at (Wrote site bytes ∷ past) now (before, done, (count, within, is, appended, writes)) late =
      subst (λ (l : List ℕ). Stands (Wrote site l ∷ past) now.stage) (sym is)
      (wrote_on site count past before.stage now.stage writes (stands_at past before done late))

-- what that says
speaks_at : (past : List Doing) (a : Stage) → Stands past a → Speaks past a
speaks_at past (At.Http c) stands = stands
speaks_at past (At.Socket socket) was =
    let heeds = heeded was.events was.first socket was.keeps was.happen in
    let utters = uttered was.events was.first socket was.happen in
    record {
      last = was.last;
      first = was.first;
      came = was.front;
      later = life.all_bytes was.events;
      came_is = was.came_is;
      written = was.front_written;
      wrote = life.all_written was.events;
      written_is = was.written_is;
      http = was.http;
      switched = was.switched;
      fresh = was.fresh;
      heeds = subst (λ (l : List (List ℕ)). Heeds was.first.context (was.last.unread ++ life.all_bytes was.events) l socket) was.given_is
          (subst (λ (l : List ℕ). Heeds was.first.context (l ++ life.all_bytes was.events) (life.all_texts was.events) socket)
          was.input heeds);
      outs = utters.frames;
      goes = utters.bytes ∙ ap (λ (l : List ℕ). l ++ frames_bytes utters.frames) was.output;
      texts = utters.texts ∙ was.said_is;
      missed = was.misses.missed;
      told = was.misses.told;
      while_open = was.misses.while_open;
    }
speaks_at past At.Over stands = stands

module _ {S : Type 0} (remaining contents : S → Option (List ℕ)) (site : Site) where
  pub served_speaks : (older : Before S) (steps : List Step) (out : List MessageValue) (number : Option ℕ) (now : Spot S)
      (served : IsGuestServed remaining contents (around site older) steps out number now) → Speaks served.past now.stage
  served_speaks older steps out number now served =
      speaks_at served.past now.stage
      (stands_at remaining contents served.first served.new served.past now served.done served.late)
