-- How other protocols begin.
use Rattle.std.proofs.Common.{◌≡◌, ◌↔◌, ◌∙◌, ◌<◌, ◌≤◌, ◌+◌, ℕ, Bool, true, false, List, [], ◌∷◌, ◌++◌, length, get_or, take, drop, refl, ap, sym, subst, inl, inr, arith, append_assoc, take-append-drop, length-append}
use Rattle.std.specs.Prelude.{IsTrue, eqb, codes}
use Rattle.std.specs.List.{starts_with}
use Rattle.std.proofs.lemmas.Bool.{false≢true}
use Rattle.std.proofs.lemmas.Bool.Decides.{Decides-eqb}
use Rattle.std.proofs.lemmas.List.{length-take-le}
use Rattle.std.proofs.lemmas.List.Elements.{All-head, All-tail}
use Rattle.std.proofs.lemmas.Slice.Eq.{starts_is}
use Rattle.text_lines.specs.Lines.{is_feed, HasNoFeed}
use Rattle.chess_sockets.specs.Protocols.{IsRequest, BeginHttp, BeginTls, AreOfAnotherProtocol}
use Rattle.chess_sockets.proofs.PortionLemmas.{line-taken}

-- ---- the version

-- it stands where bytes begin with it
pub request_here : (line : List ℕ) → starts_with eqb line (codes " HTTP/") ≡ true → IsRequest line
request_here line starts = record {
  before = [];
  after = drop 6 line;
  cut = (starts_is Decides-eqb line (codes " HTTP/") true (sym starts)).0 refl;
}

behind : (b : ℕ) (line before after : List ℕ) → starts_with eqb (b ∷ line) (codes " HTTP/") ≡ false →
    b ∷ line ≡ before ++ (codes " HTTP/" ++ after) → IsRequest line
behind b line [] after not cut =
    absurd (false≢true (sym not
    ∙ (starts_is Decides-eqb (b ∷ line) (codes " HTTP/") (starts_with eqb (b ∷ line) (codes " HTTP/")) refl).1 after cut))
behind b line (c ∷ before) after not cut = record { before = before; after = after; cut = cc }

-- and else behind their first byte
pub request_behind : (b : ℕ) (line : List ℕ) → starts_with eqb (b ∷ line) (codes " HTTP/") ≡ false →
    IsRequest (b ∷ line) → IsRequest line
request_behind b line not request = behind b line request.before request.after not request.cut

pub request_before : (b : ℕ) (line : List ℕ) → IsRequest line → IsRequest (b ∷ line)
request_before b line request = record {
  before = b ∷ request.before;
  after = request.after;
  cut = ap (λ (l : List ℕ). b ∷ l) request.cut;
}

-- in no bytes it does not stand
pub no_request : {P : Type 0} → IsRequest [] → P
no_request request =
    absurd (omega (arith, simp length-append at (ap (λ (l : List ℕ). length l) request.cut)))

-- where it does not stand here it stands behind, if it stands at all
pub request_on : (line rest : List ℕ) (b : ℕ) (after : List ℕ) → rest ≡ b ∷ after →
    starts_with eqb rest (codes " HTTP/") ≡ false → IsRequest line ↔ IsRequest rest → IsRequest line ↔ IsRequest after
request_on line rest b after cut not same = (
  λ request. request_behind b after (subst (λ (l : List ℕ). starts_with eqb l (codes " HTTP/") ≡ false) cut not)
      (subst (λ (l : List ℕ). IsRequest l) cut (same.0 request)),
  λ request. same.1 (subst (λ (l : List ℕ). IsRequest l) (sym cut) (request_before b after request)),
)

-- in the end no byte is left
pub request_none : (line rest : List ℕ) → length rest ≡ 0 → IsRequest line ↔ IsRequest rest →
    IsTrue false ↔ IsRequest line
request_none line [] none same = (λ is. absurd (false≢true is), λ request. no_request (same.0 request))
request_none line (b ∷ rest) none same = absurd (omega (arith, none))

-- ---- the first line

feed_is : {P : Type 0} (bytes : List ℕ) → HasNoFeed (10 ∷ bytes) → P
feed_is bytes none = absurd (false≢true (sym (All-head (λ b. is_feed b ≡ false) 10 bytes none)))

-- a line feed ends it
no_feed_none : {P : Type 0} (line more : List ℕ) → HasNoFeed (line ++ 10 ∷ more) → P
no_feed_none [] more none = feed_is more none
no_feed_none (b ∷ line) more none = no_feed_none line more (All-tail (λ b. is_feed b ≡ false) b (line ++ 10 ∷ more) none)

-- and it is one
same_line : (a b x y : List ℕ) → a ++ 10 ∷ x ≡ b ++ 10 ∷ y → HasNoFeed a → HasNoFeed b → a ≡ b
same_line [] [] x y e f g = refl
same_line [] (c ∷ b) x y e f g =
    let is : 10 ≡ c = cc in
    feed_is b (subst (λ (n : ℕ). HasNoFeed (n ∷ b)) (sym is) g)
same_line (c ∷ a) [] x y e f g =
    let is : 10 ≡ c = cc in
    feed_is a (subst (λ (n : ℕ). HasNoFeed (n ∷ a)) (sym is) f)
same_line (c ∷ a) (d ∷ b) x y e f g =
    let head : c ≡ d = cc in
    let tail : a ++ 10 ∷ x ≡ b ++ 10 ∷ y = cc in
    let rest = same_line a b x y tail (All-tail (λ n. is_feed n ≡ false) c a f) (All-tail (λ n. is_feed n ≡ false) d b g) in
    ap (λ (n : ℕ). n ∷ a) head ∙ ap (λ (l : List ℕ). d ∷ l) rest

-- ---- what begins

-- bytes that begin with the byte of a handshake
pub begin_tls : (bytes : List ℕ) → starts_with eqb bytes (22 ∷ []) ≡ true → AreOfAnotherProtocol bytes
begin_tls bytes starts = inl (record {
  more = drop 1 bytes;
  cut = (starts_is Decides-eqb bytes (22 ∷ []) true (sym starts)).0 refl;
})

not_tls : {P : Type 0} (bytes : List ℕ) → starts_with eqb bytes (22 ∷ []) ≡ false → BeginTls bytes → P
not_tls bytes not tls = absurd (false≢true (sym not
    ∙ (starts_is Decides-eqb bytes (22 ∷ []) (starts_with eqb bytes (22 ∷ [])) refl).1 tls.more tls.cut))

-- the first line of bytes with a line feed
line_cut : (bytes : List ℕ) (at : ℕ) → at < length bytes → get_or bytes at 0 ≡ 10 →
    bytes ≡ take at bytes ++ 10 ∷ drop (at + 1) bytes
line_cut bytes at lt feed =
    sym (take-append-drop (at + 1) bytes) ∙ ap (λ l. l ++ drop (at + 1) bytes) (line-taken bytes at lt feed)
    ∙ append_assoc (take at bytes) (10 ∷ []) (drop (at + 1) bytes)

first_is : (bytes : List ℕ) (at : ℕ) → at < length bytes → get_or bytes at 0 ≡ 10 → HasNoFeed (take at bytes) →
    (http : BeginHttp bytes) → http.line ≡ take at bytes
first_is bytes at lt feed none http =
    same_line http.line (take at bytes) http.more (drop (at + 1) bytes) (sym http.cut ∙ line_cut bytes at lt feed)
    http.unfinished.no_feed none

-- bytes with a line feed, by their first line
pub begin_line : (bytes : List ℕ) (at : ℕ) (is : Bool) → starts_with eqb bytes (22 ∷ []) ≡ false → at < length bytes →
    at ≤ 255 → get_or bytes at 0 ≡ 10 → HasNoFeed (take at bytes) → (IsTrue is ↔ IsRequest (take at bytes)) →
    IsTrue is ↔ AreOfAnotherProtocol bytes
begin_line bytes at is not lt le feed none request = (
  λ yes. inr (record {
    line = take at bytes;
    more = drop (at + 1) bytes;
    cut = line_cut bytes at lt feed;
    unfinished = record {
      no_feed = none;
      short = let same = length-take-le at bytes (omega (arith, lt)) in omega (arith, le, same);
    };
    request = request.0 yes;
  }),
  λ other. elim other [
    | inl tls ↦ not_tls bytes not tls
    | inr http ↦ request.1 (subst (λ (l : List ℕ). IsRequest l) (first_is bytes at lt feed none http) http.request)
  ],
)

-- by one that is too long
pub begin_long : (bytes : List ℕ) (at : ℕ) → starts_with eqb bytes (22 ∷ []) ≡ false → at < length bytes → 255 < at →
    get_or bytes at 0 ≡ 10 → HasNoFeed (take at bytes) → IsTrue false ↔ AreOfAnotherProtocol bytes
begin_long bytes at not lt long feed none = (
  λ is. absurd (false≢true is),
  λ other. elim other [
    | inl tls ↦ not_tls bytes not tls
    | inr http ↦
        let same = length-take-le at bytes (omega (arith, lt)) in
        let is = ap (λ (l : List ℕ). length l) (first_is bytes at lt feed none http) in
        let short = http.unfinished.short in
        absurd (omega (arith, long, same, is, short))
  ],
)

-- and without one
pub begin_none : (bytes : List ℕ) → starts_with eqb bytes (22 ∷ []) ≡ false → HasNoFeed bytes →
    IsTrue false ↔ AreOfAnotherProtocol bytes
begin_none bytes not none = (
  λ is. absurd (false≢true is),
  λ other. elim other [
    | inl tls ↦ not_tls bytes not tls
    | inr http ↦ no_feed_none http.line http.more (subst (λ (l : List ℕ). HasNoFeed l) http.cut none)
  ],
)
