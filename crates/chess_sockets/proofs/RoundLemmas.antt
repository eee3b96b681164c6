-- What a session is sent and given, and clients one after the other.
use Rattle.std.proofs.Common.{◌≡◌, ◌≢◌, ◌≤◌, ◌<◌, ◌+◌, ◌⊎◌, ℕ, Bool, true, false, List, [], ◌∷◌, ◌++◌, Option, Some, None, IfSome, length, get_or, set, take, refl, ap, sym, ◌∙◌, subst, inl, inr, arith, append-nil}
use Rattle.std.specs.Prelude.{IsSome, IsSomeAnd, ◌==◌, ◌&&◌, ◌||◌, not, if◌then◌else◌, option_map}
use Rattle.std.specs.Io.KnownBytes.{Consumes, Keeps}
use Rattle.std.specs.Bool.{OnTrue, OnFalse}
use Rattle.std.proofs.KnownBytes.{Consumes-nil, Appends-nil}
use Rattle.std.proofs.lemmas.Bool.{cases_Bool, false≢true}
use Rattle.std.proofs.lemmas.Bool.Decides.{Decides-eqb}
use Rattle.std.proofs.lemmas.List.{take_more, take_more_set, take_all, length-set, get_or-set_other}
use Rattle.text_lines.specs.Lines.{IsUnfinished}
use Rattle.text_lines.specs.Heard.{Heard}
use Rattle.chess_answer.specs.declared.reads.Reply.{Reply}
use Rattle.chess_hub.specs.declared.sessions.Sessions.{Sessions}
use Rattle.chess_hub.specs.Session.{Said, said, SessionState, session_at, Changes, IsUnchanged, due, first_due, given_one, farewell, is_done}
use Rattle.chess_sockets.specs.declared.client.Client.{Client}
use Rattle.chess_sockets.specs.Clients.{Standing, standing, OthersStay, IsSilent, IsHeardAt, IsEndSeen, IsHeldUp, HasWaitedOn, HasSpokenOn, GivesOn, TakesIn, HandsOut, bytes_of_all, to_go, ahead, pends}
use Rattle.chess_sockets.specs.declared.closing.Closing.{Closing}
use Rattle.chess_sockets.specs.declared.closing.Closing.TheVariants.{Silence}
use Rattle.chess_sockets.specs.Closings.{HasFailed, WasRefused, IsForeign, ByReason, IsReason, IsOver}
use Rattle.chess_sockets.specs.Protocols.{AreOfAnotherProtocol}
use Rattle.chess_sockets.specs.Incoming.{held}
use Rattle.chess_sockets.specs.Sending.{waiting, HandsOn}
use Rattle.chess_sockets.specs.Portions.{is_dear, IsDearLine, AreMost}
use Rattle.chess_sockets.proofs.PortionLemmas.{none-dear}
use Rattle.chess_sockets.proofs.HeardLemmas.{heard_as_before, end_as_before}
use Rattle.chess_sockets.proofs.TakingLemmas.{takes-kept, takes-in, some_at, up_unfinished, waits-still, waits-for, spoken-still, gives-none-up, gives-closed}
use Rattle.chess_sockets.specs.Rounds.{Intake, intake, Holds, AreEach, PassesClosed, IsSent, IsRead, AreGivenTo, AreGiven, IsGivenOut, IsHandedOut, IsWritten, times}
use Rattle.chess_sockets.proofs.ClientLemmas.{session_state}

-- ---- sessions that are as they were

pub unchanged-refl : (s : Sessions) → IsUnchanged s s
unchanged-refl s = λ sid. refl

pub unchanged-trans : (a b c : Sessions) → IsUnchanged a b → IsUnchanged b c → IsUnchanged a c
unchanged-trans a b c h k = λ sid. k sid ∙ h sid

pub unchanged_by : (old new : Sessions) → new ≡ old → IsUnchanged old new
unchanged_by old new same = subst (IsUnchanged old) (sym same) (unchanged-refl old)

pub unchanged : (old new : Sessions) (sid : ℕ) → session_at new sid ≡ session_at old sid → OthersStay old new sid →
    IsUnchanged old new
unchanged old new sid same others = λ other. elim (cases_Bool (other == sid)) [
  | inl is ↦
      let e : other ≡ sid = (Decides-eqb other sid).0 is in
      ap (λ (n : ℕ). session_at new n) e ∙ same ∙ sym (ap (λ (n : ℕ). session_at old n) e)
  | inr not ↦ others other (λ (e : other ≡ sid). false≢true (sym not ∙ (Decides-eqb other sid).1 e))
]

-- a change after sessions that were as before
changes_after : (a b c : Sessions) (sid : ℕ) (now : Option SessionState) → IsUnchanged a b → Changes b c sid now →
    Changes a c sid now
changes_after a b c sid now h k = record {
  changed = k.changed;
  others = λ other differs. k.others other differs ∙ h other;
}

-- ---- what a session is sent

-- what was read and sent
pub record Sends (room left longest : ℕ) (before after : Option (List ℕ)) (unsent holds keeps : List ℕ)
    (stood stands : Standing) (sid : ℕ) (old new : Sessions) : Type 0 where
  pub taken : List ℕ
  pub consumed : Consumes before after taken
  pub unfinished : taken ≢ [] → IsUnfinished holds
  pub fed : List ℕ
  pub order : holds ++ taken ≡ fed ++ keeps
  pub many : fed ≢ [] → AreMost fed keeps
  pub fewer : left ≤ room
  pub dear : IsDearLine fed → (left + 1 ≤ room) × (longest ≤ stood.waited)
  pub spent : (left ≡ room) ⊎ (is_dear fed ≡ true) ⊎ (session_at new sid ≡ None)
  pub wait : HasWaitedOn (IfSome (session_at old sid) (λ s. IsHeldUp unsent keeps s (session_at new sid))) room longest fed
      keeps stood.waited stands.waited
  pub first : HasSpokenOn (holds ++ taken) fed stood.has_spoken stands.has_spoken
  pub closes : stood.has_spoken ≡ false → taken ≢ [] → AreOfAnotherProtocol (holds ++ taken) → session_at new sid ≡ None
  pub sent : IsSent sid fed old new

spent_by : {A : Type 0} {left room : ℕ} {much : Type 0} (m n : Option A) → n ≡ m →
    (left ≡ room) ⊎ much ⊎ (m ≡ None) → (left ≡ room) ⊎ much ⊎ (n ≡ None)
spent_by m n same spent = elim spent [
  | inl still ↦ inl still
  | inr (inl dear) ↦ inr (inl dear)
  | inr (inr none) ↦ inr (inr (same ∙ none))
]

-- it is held up, told by the sessions
up_at : {unsent keeps : List ℕ} (s : SessionState) (m n r : Option SessionState) → m ≡ Some s → n ≡ r →
    IsHeldUp unsent keeps s r → IfSome m (λ t. IsHeldUp unsent keeps t n)
up_at {unsent = unsent} {keeps = keeps} s m n r e f up =
    some_at (λ t. IsHeldUp unsent keeps t n) (Some s) m e (subst (λ (o : Option SessionState). IsHeldUp unsent keeps s o) (sym f) up)

sent_by : {room left longest : ℕ} {stood stands : Standing} {unsent holds keeps : List ℕ} (sid : ℕ) (old new : Sessions)
    (s : SessionState) (n : Option SessionState) → session_at old sid ≡ Some s → session_at new sid ≡ n →
    (gives : GivesOn (ahead longest unsent) (pends holds stood room) (pends keeps stands left) s n) → OthersStay old new sid →
    IsSent sid gives.fed old new
sent_by sid old new s None e f gives others = inr (inr (inl (gives.gone refl, record { changed = f; others = others })))
sent_by sid old new s (Some r) e f gives others = elim gives.heard [
  | inl (short_so_far, portion, alone, is) ↦ inl (
    portion,
    subst (λ (o : Option SessionState). IsSomeAnd o (λ s. s.heard.bytes ≡ [])) (sym e) alone,
    record {
      state = s;
      was = e;
      short = short_so_far;
      heard = record { changed = f ∙ ap Some is; others = others };
    },
  )
  | inr (inl (is, none)) ↦ inr (inl (none, unchanged old new sid (f ∙ ap Some is ∙ sym e) others))
  | inr (inr (is, long)) ↦ inr (inr (inr (
    subst (λ (o : Option SessionState). IsSomeAnd o (λ s. s.heard.is_long ≡ true)) (sym e) long,
    unchanged old new sid (f ∙ ap Some is ∙ sym e) others,
  )))
]

pub sends : (stood stands : Standing) (room left longest : ℕ) (before after : Option (List ℕ)) (unsent holds keeps : List ℕ)
    (sid : ℕ) (old new : Sessions) (m n : Option SessionState) → session_at old sid ≡ m → session_at new sid ≡ n →
    IsSome m → IfSome m (λ s. TakesIn before after (ahead longest unsent) (pends holds stood room) (pends keeps stands left) s n) →
    OthersStay old new sid → Sends room left longest before after unsent holds keeps stood stands sid old new
sends stood stands room left longest before after unsent holds keeps sid old new None n e f is_open takes others =
    absurd (let bad : false ≡ true = is_open in false≢true bad)
sends stood stands room left longest before after unsent holds keeps sid old new (Some s) n e f is_open takes others =
    record {
      taken = takes.taken;
      consumed = takes.consumed;
      unfinished = takes.unfinished;
      fed = takes.gives.fed;
      order = takes.gives.order;
      many = takes.gives.many;
      fewer = takes.gives.fewer;
      dear = takes.gives.dear;
      spent = spent_by n (session_at new sid) f takes.gives.spent;
      wait = waits-for room longest takes.gives.fed keeps stood.waited stands.waited
          (up_at s (session_at old sid) (session_at new sid) n e f) takes.gives.wait;
      first = takes.gives.first;
      closes = λ quiet some other. f ∙ takes.closes quiet some other;
      sent = sent_by sid old new s n e f takes.gives others;
    }

pub sent_after : (a b c : Sessions) (sid : ℕ) (fed : List ℕ) → IsUnchanged a b → IsSent sid fed b c → IsSent sid fed a c
sent_after a b c sid fed h sent = elim sent [
  | inl (portion, alone, hears) ↦ inl (
    portion,
    subst (λ (o : Option SessionState). IsSomeAnd o (λ s. s.heard.bytes ≡ [])) (h sid) alone,
    record {
      state = hears.state;
      was = sym (h sid) ∙ hears.was;
      short = hears.short;
      heard = changes_after a b c sid _ h hears.heard;
    },
  )
  | inr (inl (none, stays)) ↦ inr (inl (none, unchanged-trans a b c h stays))
  | inr (inr (inl (none, closed))) ↦ inr (inr (inl (none, changes_after a b c sid None h closed)))
  | inr (inr (inr (long, stays))) ↦ inr (inr (inr (
    subst (λ (o : Option SessionState). IsSomeAnd o (λ s. s.heard.is_long ≡ true)) (h sid) long,
    unchanged-trans a b c h stays,
  )))
]

-- ---- a session that is closed

pub closed_after : {S : Type 0} (client after : Client S) (a b c : Sessions) → IsUnchanged a b →
    PassesClosed client after b c → PassesClosed client after a c
closed_after client after a b c h passes none =
    let past = passes (h client.sid ∙ none) in
    (past.0, unchanged-trans a b c h past.1)

-- this one is not closed
pub not_closed : {A : Type 0} (m : Option A) (P : Type 0) → IsSome m → m ≡ None → P
not_closed None P is_open e = absurd (false≢true is_open)
not_closed (Some s) P is_open e = absurd (let bad : Some s ≡ None = e in cc)

pub both_true : {P Q : Type 0} (b : Bool) → (b ≡ true → P → Q) → OnTrue b P → OnTrue b Q
both_true true q p = q refl p
both_true false q p = tt

pub on_false : {P Q : Type 0} (b : Bool) → (P → Q) → OnFalse b P → OnFalse b Q
on_false true q p = tt
on_false false q p = q p

pub silent_written : {S : Type 0} (silence : Option ℕ) (client : Client S) (sessions : Sessions) (at : ℕ) →
    IsSomeAnd silence (IsSilent client sessions at) → waiting client.outgoing ≡ []
silent_written None client sessions at silent = absurd silent
silent_written (Some most) client sessions at silent = silent.written

-- of whom nothing came for so long, where what is asked of its session is as before
silent_again : {S : Type 0} (silence : Option ℕ) (client : Client S) (a b : Sessions) (at : ℕ) → IsUnchanged a b →
    IsSomeAnd silence (IsSilent client b at) → IsSomeAnd silence (IsSilent client a at)
silent_again None client a b at h silent = absurd silent
silent_again (Some most) client a b at h silent = record {
  long = silent.long;
  written = silent.written;
  answered = subst (λ (o : Option SessionState). IfSome o (λ s. (s.heard.bytes ≡ []) × (due s ≡ []))) (h client.sid)
      silent.answered;
  unfinished = silent.unfinished;
}

-- it is closed for that
pub silent_reason : {S : Type 0} (silence : Option ℕ) (client after : Client S) (sessions : Sessions) (at : ℕ) →
    after.closing ≡ Some Silence → after.heard_at ≡ client.heard_at → after.sid ≡ client.sid →
    held after.incoming ≡ held client.incoming → waiting after.outgoing ≡ waiting client.outgoing →
    IsSomeAnd silence (IsSilent client sessions at) →
    IsReason after (IsForeign after) (IsSomeAnd silence (IsSilent after sessions at)) ⊥ ⊥
silent_reason None client after sessions at told heard sid holds waits silent = absurd silent
silent_reason (Some most) client after sessions at told heard sid holds waits silent =
    subst (λ (c : Option Closing). ByReason c (HasFailed after) (WasRefused after) (IsForeign after)
    (IsSilent after sessions at most) ⊥ ⊥)
    (sym told) (record {
      long = subst (λ (n : ℕ). n + most ≤ at) (sym heard) silent.long;
      written = waits ∙ silent.written;
      answered = subst (λ (n : ℕ). IfSome (session_at sessions n) (λ s. (s.heard.bytes ≡ []) × (due s ≡ []))) (sym sid)
          silent.answered;
      unfinished = subst (λ (l : List ℕ). IsUnfinished l) (sym holds) silent.unfinished;
    })

-- said of sessions that are as they were
reason_again : {S : Type 0} (silence : Option ℕ) (client : Client S) (a b : Sessions) (at : ℕ)
    (failed refused foreign : Type 0) (closing : Option Closing) → IsUnchanged a b →
    ByReason closing failed refused foreign (IsSomeAnd silence (IsSilent client b at)) ⊥ ⊥ →
    ByReason closing failed refused foreign (IsSomeAnd silence (IsSilent client a at)) ⊥ ⊥
reason_again silence client a b at failed refused foreign (Some Silence) h is = silent_again silence client a b at h is
reason_again silence client a b at failed refused foreign closing h is = is

-- the connection has failed, memory was refused, or it begins as another protocol does
pub reason_of_trouble : (failed refused foreign silent : Type 0) (closing : Option Closing) →
    ByReason closing failed refused foreign ⊥ ⊥ ⊥ → ByReason closing failed refused foreign silent ⊥ ⊥
reason_of_trouble failed refused foreign silent (Some Silence) is = absurd is
reason_of_trouble failed refused foreign silent closing is = is

-- a session that is as it was is not closed
pub not_now : {P : Type 0} (m n : Option SessionState) → n ≡ m → IsSome m → n ≡ None → P
not_now {P = P} m n same is_open none = not_closed m P is_open (sym same ∙ none)

-- ---- who is read for

pub holds-refl : (s : Intake) → Holds s s
holds-refl s = (unchanged-refl s.sessions, refl)

module _ {S : Type 0} (remaining : S → Option (List ℕ)) (silence : Option ℕ) (at longest : ℕ) where
  -- no line of this client can go on
  abbrev pub IsHeldUpBetween : Client S → Client S → Sessions → Sessions → Type 0
  IsHeldUpBetween client after old new = IfSome (session_at old client.sid)
      (λ s. IsHeldUp (waiting client.outgoing) (held after.incoming) s (session_at new client.sid))

  -- the reason where this client's session is closed
  abbrev pub HasReason : Client S → Client S → Sessions → Sessions → Type 0
  HasReason client after old new =
      IsSome (session_at old client.sid) → session_at new client.sid ≡ None
      → IsReason after (IsForeign after) (IsSomeAnd silence (IsSilent after old at)) ⊥ ⊥

  pub passed_over : (client : Client S) (s : Intake) → IsHeldUpBetween client client s.sessions s.sessions →
      IsRead remaining (times at silence) longest client client s s
  passed_over client s up = record {
    sid = refl;
    outgoing = refl;
    taken = [];
    consumed = Consumes-nil (remaining client.wire.stream);
    unfinished = λ some. absurd (some refl);
    fed = [];
    order = append-nil (held client.incoming);
    short = client.incoming.few;
    sent = inr (inl (refl, unchanged-refl s.sessions));
    many = λ some. absurd (some refl);
    fewer = omega arith;
    dear = none-dear;
    spent = inl refl;
    wait = waits-still (IsHeldUpBetween client client s.sessions s.sessions) s.room longest (held client.incoming)
        client.waited client.waited up refl;
    first = spoken-still (held client.incoming ++ []) client.has_spoken client.has_spoken refl;
    foreign = λ quiet some. absurd (some refl);
    unread = λ waits. (refl, refl, unchanged-refl s.sessions);
    heard = heard_as_before (remaining client.wire.stream) at client.heard_at;
    ended = end_as_before (remaining client.wire.stream) client.has_ended;
    closed = λ none. (refl, unchanged-refl s.sessions);
    reason = λ is_open none. not_closed (session_at s.sessions client.sid) _ is_open none;
  }

  pub is_read : (client after : Client S) (old new : Intake) → after.sid ≡ client.sid →
      waiting after.outgoing ≡ waiting client.outgoing →
      (waiting client.outgoing ≢ [] → (after.wire.stream ≡ client.wire.stream) × (held after.incoming ≡ held client.incoming)
      × IsUnchanged old.sessions new.sessions) →
      IsHeardAt (remaining client.wire.stream) (remaining after.wire.stream) at client.heard_at after.heard_at →
      IsEndSeen (remaining after.wire.stream) client.has_ended after.has_ended →
      PassesClosed client after old.sessions new.sessions → HasReason client after old.sessions new.sessions →
      (session_at new.sessions client.sid ≡ None → (new.room ≡ old.room) ⊎ WasRefused after) →
      Sends old.room new.room longest (remaining client.wire.stream) (remaining after.wire.stream)
      (waiting client.outgoing) (held client.incoming) (held after.incoming) (standing client) (standing after) client.sid
      old.sessions new.sessions → IsRead remaining (times at silence) longest client after old new
  is_read client after old new sid outgoing unread heard ended closed reason refused sends = record {
    sid = sid;
    outgoing = outgoing;
    taken = sends.taken;
    consumed = sends.consumed;
    unfinished = sends.unfinished;
    fed = sends.fed;
    order = sends.order;
    short = after.incoming.few;
    sent = sends.sent;
    many = sends.many;
    fewer = sends.fewer;
    dear = sends.dear;
    spent = elim sends.spent [
      | inl still ↦ inl still
      | inr (inl much) ↦ inr (inl much)
      | inr (inr none) ↦ elim (refused none) [
        | inl still ↦ inl still
        | inr was ↦ inr (inr (none, was))
      ]
    ];
    wait = sends.wait;
    first = sends.first;
    foreign = sends.closes;
    unread = unread;
    heard = heard;
    ended = ended;
    closed = closed;
    reason = reason;
  }

  -- Nothing came of a client, and no line of it is held back. Its session is closed, or all stays.
  pub read_nothing : (client after : Client S) (room : ℕ) (old new : Sessions) (done : Bool) →
      after.sid ≡ client.sid → waiting after.outgoing ≡ waiting client.outgoing →
      IsHeardAt (remaining client.wire.stream) (remaining after.wire.stream) at client.heard_at after.heard_at →
      IsEndSeen (remaining after.wire.stream) client.has_ended after.has_ended →
      Keeps (remaining client.wire.stream) (remaining after.wire.stream) → held after.incoming ≡ held client.incoming →
      IsUnfinished (held after.incoming) → standing after ≡ standing client → IsSome (session_at old client.sid) →
      OnTrue done (waiting client.outgoing ≡ []) →
      (waiting client.outgoing ≢ [] → after.wire.stream ≡ client.wire.stream) → OnTrue done (Changes old new client.sid None) →
      OnTrue done (IsReason after (IsForeign after) (IsSomeAnd silence (IsSilent after old at)) ⊥ ⊥) →
      OnFalse done (IsUnchanged old new) →
      IsRead remaining (times at silence) longest client after (intake old room) (intake new room)
  read_nothing client after room old new true sid outgoing heard ended kept same none still is_open silent stream closed reason stays =
      let m = session_at old client.sid in
      let n = session_at new client.sid in
      let unsent = waiting client.outgoing in
      is_read client after (intake old room) (intake new room) sid outgoing
      (λ waits. absurd (waits silent)) heard ended (not_closed (session_at old client.sid) _ is_open) (λ was none. reason)
      (λ none. inl refl)
      (sends (standing client) (standing after) room room longest (remaining client.wire.stream) (remaining after.wire.stream) unsent (held client.incoming)
      (held after.incoming) client.sid old new m n refl refl is_open
      (takes-in (standing client) (standing after) room room longest m n (remaining client.wire.stream)
      (remaining after.wire.stream) unsent (held client.incoming) (held after.incoming) (held after.incoming)
      (takes-kept (remaining client.wire.stream) (remaining after.wire.stream) (held client.incoming) (held after.incoming) kept same)
      (gives-closed (standing client) (standing after) room room longest m n unsent (held after.incoming) (omega arith)
      closed.changed still) (λ quiet other. inl same)) closed.others)
  read_nothing client after room old new false sid outgoing heard ended kept same none still is_open silent stream closed reason stays =
      let m = session_at old client.sid in
      let n = session_at new client.sid in
      let unsent = waiting client.outgoing in
      is_read client after (intake old room) (intake new room) sid outgoing
      (λ waits. (stream waits, same, stays)) heard ended (not_closed (session_at old client.sid) _ is_open)
      (not_now (session_at old client.sid) (session_at new client.sid) (stays client.sid)) (λ none. inl refl)
      (sends (standing client) (standing after) room room longest (remaining client.wire.stream) (remaining after.wire.stream) unsent (held client.incoming)
      (held after.incoming) client.sid old new m n refl refl is_open
      (takes-in (standing client) (standing after) room room longest m n (remaining client.wire.stream)
      (remaining after.wire.stream) unsent (held client.incoming) (held after.incoming) (held after.incoming)
      (takes-kept (remaining client.wire.stream) (remaining after.wire.stream) (held client.incoming) (held after.incoming) kept same)
      (gives-none-up (standing client) (standing after) room longest m n unsent (held after.incoming) (stays client.sid)
      (up_unfinished unsent (held after.incoming) m n none) still) (λ quiet other. inl same))
      (λ other differs. stays other))

  pub read_after : (client after : Client S) (a b c : Intake) → Holds a b →
      IsRead remaining (times at silence) longest client after b c → IsRead remaining (times at silence) longest client after a c
  read_after client after a b c h read = record {
    sid = read.sid;
    outgoing = read.outgoing;
    taken = read.taken;
    consumed = read.consumed;
    unfinished = read.unfinished;
    fed = read.fed;
    order = read.order;
    short = read.short;
    sent = sent_after a.sessions b.sessions c.sessions client.sid read.fed h.0 read.sent;
    many = read.many;
    fewer = subst (λ r. c.room ≤ r) h.1 read.fewer;
    dear = λ dear.
        let first = read.dear dear in
        (subst (λ r. c.room + 1 ≤ r) h.1 first.0, first.1);
    spent = subst (λ (r : ℕ). (c.room ≡ r) ⊎ (is_dear read.fed ≡ true)
        ⊎ (session_at c.sessions client.sid ≡ None) × WasRefused after) h.1 read.spent;
    wait = subst (λ (r : ℕ). HasWaitedOn (IsHeldUpBetween client after a.sessions c.sessions) r longest read.fed
        (held after.incoming) client.waited after.waited) h.1
        (waits-for b.room longest read.fed (held after.incoming) client.waited after.waited
        (some_at (λ s. IsHeldUp (waiting client.outgoing) (held after.incoming) s (session_at c.sessions client.sid))
        (session_at b.sessions client.sid) (session_at a.sessions client.sid) (sym (h.0 client.sid))) read.wait);
    first = read.first;
    foreign = read.foreign;
    unread = λ waits.
        let same = read.unread waits in
        (same.0, same.1, unchanged-trans a.sessions b.sessions c.sessions h.0 same.2);
    heard = read.heard;
    ended = read.ended;
    closed = closed_after client after a.sessions b.sessions c.sessions h.0 read.closed;
    reason = λ is_open none. reason_again silence after a.sessions b.sessions at (HasFailed after) (WasRefused after) (IsForeign after)
        after.closing h.0
        (read.reason (subst (λ (o : Option SessionState). IsSome o) (sym (h.0 client.sid)) is_open) none);
  }

-- ---- clients one after the other

-- all places from one on are as they were
abbrev pub SameFrom : {A : Type 0} → ℕ → List A → List A → Type 0
SameFrom {A = A} from old new = (d : A) (k : ℕ) → from ≤ k → get_or new k d ≡ get_or old k d

-- It is done for the clients before a place, and the others are as they were.
pub record IsDoneTo {S A : Type 0} (Same : A → A → Type 0) (Done : Client S → Client S → A → A → Type 0) (i : ℕ)
    (old items : List (Client S)) (s t : A) : Type 0 where
  pub each : AreEach Same Done (take i old) (take i items) s t
  pub same : SameFrom i old items
  pub whole : length items ≡ length old

module _ {S A : Type 0} (Same : A → A → Type 0) (same : (a : A) → Same a a) (Done : Client S → Client S → A → A → Type 0)
  where
    -- It may be done later, where nothing has changed.
    abbrev pub MayWait : Type 0
    MayWait = (client after : Client S) (a b c : A) → Same a b → Done client after b c → Done client after a c

    one_more : MayWait → (clients done : List (Client S)) (client after : Client S) (a b c : A) →
        AreEach Same Done clients done a b → Done client after b c →
        AreEach Same Done (clients ++ client ∷ []) (done ++ after ∷ []) a c
    one_more waits [] done client after a b c (none, stays) one = (
      after,
      [],
      c,
      ap (λ (l : List (Client S)). l ++ after ∷ []) none,
      waits client after a b c stays one,
      (refl, same c),
    )
    one_more waits (first ∷ clients) done client after a b c (it, rest, between, whole, is, are) one = (
      it,
      rest ++ after ∷ [],
      between,
      ap (λ (l : List (Client S)). l ++ after ∷ []) whole,
      is,
      one_more waits clients rest client after between b c are one,
    )

    -- and it is done for one client more
    pub done_further : MayWait → (old items : List (Client S)) (i : ℕ) (d after : Client S) (s t u : A) →
        i < length items → IsDoneTo Same Done i old items s t → Done (get_or items i d) after t u →
        IsDoneTo Same Done (i + 1) old (set items i after) s u
    done_further waits old items i d after s t u lt so_far one =
        let below : i < length old = omega (arith, lt, so_far.whole) in
        let front : take (i + 1) old ≡ take i old ++ get_or items i d ∷ [] =
        take_more old i d below ∙ ap (λ x. take i old ++ x ∷ []) (sym (so_far.same d i (omega arith))) in
        record {
          each = subst (λ (l : List (Client S)). AreEach Same Done l (take (i + 1) (set items i after)) s u) (sym front)
              (subst (λ (l : List (Client S)). AreEach Same Done (take i old ++ get_or items i d ∷ []) l s u)
              (sym (take_more_set items i after lt))
              (one_more waits (take i old) (take i items) (get_or items i d) after s t u so_far.each one));
          same = λ d' k from.
              let ne : k ≢ i = omega (arith, from) in
              get_or-set_other items i k after d' ne ∙ so_far.same d' k (omega (arith, from));
          whole = length-set items i after ∙ so_far.whole;
        }

    -- before the first
    pub done_none : (clients items : List (Client S)) (s t : A) → items ≡ clients → Same s t →
        IsDoneTo Same Done 0 clients items s t
    done_none clients items s t is stays = record {
      each = (refl, stays);
      same = λ d k from. ap (λ (l : List (Client S)). get_or l k d) is;
      whole = ap (λ (l : List (Client S)). length l) is;
    }

    -- and for all
    pub done_all : (i : ℕ) (old items : List (Client S)) (s t : A) → length items ≤ i → IsDoneTo Same Done i old items s t →
        AreEach Same Done old items s t
    done_all i old items s t le so_far =
        let below : length old ≤ i = omega (arith, le, so_far.whole) in
        subst (λ (l : List (Client S)). AreEach Same Done l items s t) (take_all i old below)
        (subst (λ (l : List (Client S)). AreEach Same Done (take i old) l s t) (take_all i items le) so_far.each)

-- ---- what a session is given

given_since : (sid : ℕ) (answers : List Said) (a b c : Sessions) → IsUnchanged a b → AreGivenTo sid answers b c →
    AreGivenTo sid answers a c
given_since sid [] a b c h k = unchanged-trans a b c h k
given_since sid (answer ∷ answers) a b c h (before, after, given, is, stays) =
    (before, after, given_since sid answers a b before h given, is, stays)

given_kept : (sid : ℕ) (answers : List Said) (a b c : Sessions) → AreGivenTo sid answers a b → IsUnchanged b c →
    AreGivenTo sid answers a c
given_kept sid [] a b c h k = unchanged-trans a b c h k
given_kept sid (answer ∷ answers) a b c (before, after, given, is, stays) k =
    (before, after, given, is, unchanged-trans after b c stays k)

given_both : (sid : ℕ) (answers more : List Said) (a b c : Sessions) → AreGivenTo sid answers a b →
    AreGivenTo sid more b c → AreGivenTo sid (more ++ answers) a c
given_both sid answers [] a b c h k = given_kept sid answers a b c h k
given_both sid answers (answer ∷ more) a b c h (before, after, given, is, stays) =
    (before, after, given_both sid answers more a b before h given, is, stays)

pub given_none_yet : (sid : ℕ) (a b : Sessions) → IsUnchanged a b → AreGiven sid a b
given_none_yet sid a b h = record { answers = []; given = h }

pub given_more : (sid : ℕ) (a b c : Sessions) → AreGiven sid a b → AreGiven sid b c → AreGiven sid a c
given_more sid a b c h k = record {
  answers = k.answers ++ h.answers;
  given = given_both sid h.answers k.answers a b c h.given k.given;
}

given_later : (sid : ℕ) (a b c : Sessions) → IsUnchanged a b → AreGiven sid b c → AreGiven sid a c
given_later sid a b c h k = record { answers = k.answers; given = given_since sid k.answers a b c h k.given }

same_left : (done left : Bool) → None ≡ first_due (if done && not left then farewell ∷ [] else []) → (left || done) ≡ left
same_left true false none = absurd (let bad : None ≡ Some farewell = none in cc)
same_left true true none = refl
same_left false true none = refl
same_left false false none = refl

-- a session that nothing is due to stays as it is
same_one : (name : Option (List ℕ)) (heard : Heard) (answers : List Said) (left : Bool) →
    None ≡ first_due (due (session_state name heard answers left)) →
    given_one (session_state name heard answers left) ≡ session_state name heard answers left
same_one name heard [] left none = ap (session_state name heard []) (same_left (is_done heard) left none)
same_one name heard (x ∷ xs) left none = absurd (let bad : None ≡ Some x = none in cc)

-- one call of `output`
pub output_gives : (m : Option SessionState) (old new : Sessions) (sid : ℕ) (r : Option Reply) →
    session_at old sid ≡ m → IsSome m → IfSome m (λ s. option_map said r ≡ first_due (due s)) →
    IfSome m (λ s. Changes old new sid (Some (given_one s))) → AreGiven sid old new
output_gives None old new sid r e is_open given after = absurd (let bad : false ≡ true = is_open in false≢true bad)
output_gives (Some s) old new sid None e is_open given after = given_none_yet sid old new
    (unchanged old new sid (after.changed ∙ ap Some (same_one s.name s.heard s.answers s.has_left given) ∙ sym e)
    after.others)
output_gives (Some s) old new sid (Some reply) e is_open given after = record {
  answers = said reply ∷ [];
  given = (
    old,
    new,
    unchanged-refl old,
    record { state = s; was = e; first = sym given; after = after },
    unchanged-refl new,
  );
}

-- nothing more is done to it
pub goes_on : (sid : ℕ) (old new : Sessions) → AreGiven sid old new → IsGivenOut sid old new
goes_on sid old new given = record { between = new; given = given; closed = inl (unchanged-refl new) }

-- it is closed behind that
abbrev pub closes : (sid : ℕ) (old mid new : Sessions) → AreGiven sid old mid → Changes mid new sid None → IsGivenOut sid old new
closes sid old mid new given closed = record { between = mid; given = given; closed = inr closed }

-- nothing is left where nothing is due and nothing waits
pub nothing_left : (m : Option SessionState) (w left : List ℕ) → IsSome m → IfSome m (λ s. due s ≡ []) → w ≡ [] →
    IfSome (to_go m w) (λ rest. rest ≡ left) → left ≡ []
nothing_left None w left is_open none empty waits = absurd (let bad : false ≡ true = is_open in false≢true bad)
nothing_left (Some s) w left is_open none empty waits =
    sym waits ∙ ap (λ (l : List ℕ). l ++ bytes_of_all (due s)) empty ∙ ap (λ (l : List Said). [] ++ bytes_of_all l) none

-- what was handed out, where the session is closed behind it
abbrev pub hands_closed : (b c d old next : Option (List ℕ)) (n : Option SessionState) (w : List ℕ) → d ≡ c → n ≡ None →
    HandsOut b c old next → HandsOut b d old (to_go n w)
hands_closed b c d old next n w same none h = record {
  left = h.left;
  hands = subst (λ (x : Option (List ℕ)). IfSome old (λ all. HandsOn b x all h.left)) (sym same) h.hands;
  waits = subst (λ (o : Option SessionState). IfSome (to_go o w) (λ rest. rest ≡ h.left)) (sym none) tt;
}

-- what was handed out of a session that is as it was before
abbrev pub hands_since : (b c : Option (List ℕ)) (m n : Option SessionState) (w : List ℕ) (next : Option (List ℕ)) →
    n ≡ m → HandsOut b c (to_go n w) next → HandsOut b c (to_go m w) next
hands_since b c m n w next same h = record {
  left = h.left;
  hands = subst (λ (o : Option SessionState). IfSome (to_go o w) (λ all. HandsOn b c all h.left)) same h.hands;
  waits = h.waits;
}

-- the session is closed for this reason, or goes on
module _ {S : Type 0} (contents : S → Option (List ℕ)) (client after : Client S) (old mid new : Sessions)
    (given : AreGiven client.sid old mid) where
  pub closes_for : Changes mid new client.sid None →
      (hands : HandsOut (contents client.wire.stream) (contents after.wire.stream)
      (to_go (session_at old client.sid) (waiting client.outgoing))
      (to_go (session_at new client.sid) (waiting after.outgoing))) →
      IsOver after (session_at mid client.sid) hands.left → IsHandedOut contents client after old new
  closes_for closed hands reason =
      record { given = closes client.sid old mid new given closed; hands = hands; reason = λ none. reason }

pub goes_on_open : {S : Type 0} (contents : S → Option (List ℕ)) (client after : Client S) (old new : Sessions) →
    AreGiven client.sid old new → HandsOut (contents client.wire.stream) (contents after.wire.stream)
    (to_go (session_at old client.sid) (waiting client.outgoing))
    (to_go (session_at new client.sid) (waiting after.outgoing)) → IsSome (session_at new client.sid) →
    IsHandedOut contents client after old new
goes_on_open contents client after old new given hands is_open = record {
  given = goes_on client.sid old new given;
  hands = hands;
  reason = λ none. not_closed (session_at new client.sid) _ is_open none;
}

module _ {S : Type 0} (contents : S → Option (List ℕ)) where
  hands_none : (b : Option (List ℕ)) (all : Option (List ℕ)) → HandsOut b b all all
  hands_none b None = record { left = []; hands = tt; waits = tt }
  hands_none b (Some all) = record {
    left = all;
    hands = record { front = []; appended = Appends-nil b; split = refl };
    waits = refl;
  }

  pub skipped : (client : Client S) (t : Sessions) → IsWritten contents client client t t
  skipped client t = record {
    sid = refl;
    incoming = refl;
    heard = refl;
    ended = refl;
    wait = refl;
    spoken = refl;
    given = goes_on client.sid t t (given_none_yet client.sid t t (unchanged-refl t));
    hands = hands_none (contents client.wire.stream) (to_go (session_at t client.sid) (waiting client.outgoing));
    closed = λ none. (refl, unchanged-refl t);
    reason = λ is_open none. not_closed (session_at t client.sid) _ is_open none;
  }

  pub written_after : (client after : Client S) (a b c : Sessions) → IsUnchanged a b →
      IsWritten contents client after b c → IsWritten contents client after a c
  written_after client after a b c h written = record {
    sid = written.sid;
    incoming = written.incoming;
    heard = written.heard;
    ended = written.ended;
    wait = written.wait;
    spoken = written.spoken;
    given = record {
      between = written.given.between;
      given = given_later client.sid a b written.given.between h written.given.given;
      closed = written.given.closed;
    };
    hands = hands_since (contents client.wire.stream) (contents after.wire.stream) (session_at a client.sid)
        (session_at b client.sid) (waiting client.outgoing) (to_go (session_at c client.sid) (waiting after.outgoing))
        (h client.sid) written.hands;
    closed = closed_after client after a b c h written.closed;
    reason = λ is_open none.
        written.reason (subst (λ (o : Option SessionState). IsSome o) (sym (h client.sid)) is_open) none;
  }
