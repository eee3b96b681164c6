-- What comes from a peer is held back, and goes to its session.
use Rattle.std.proofs.Common.{◌≡◌, ◌≢◌, ◌∙◌, ◌≤◌, ◌<◌, ◌+◌, ◌⊎◌, ℕ, Bool, true, false, List, [], ◌∷◌, ◌++◌, Option, None, Some, IfSome, length, drop, refl, sym, subst, ap, inl, inr, append-nil, length-append, arith}
use Rattle.std.specs.Prelude.{◌-◌, ◌^◌, ◌||◌, min, IsSome, IsSomeAnd}
use Rattle.std.proofs.lemmas.Bool.{cases_Bool, false≢true}
use Rattle.std.specs.Io.KnownBytes.{Keeps}
use Rattle.std.proofs.KnownBytes.{Consumes-nil, Consumes-kept}
use Rattle.std.proofs.Math.Seq.{drop-append_seam}
use Rattle.chess_hub.specs.Session.{SessionState}
use Rattle.text_lines.specs.Lines.{IsUnfinished}
use Rattle.chess_sockets.specs.Clients.{Standing, HasHeard, IsHeldUp, HasWaitedOn, HasSpokenOn, GivesOn, TakesIn, ahead, pends}
use Rattle.chess_sockets.specs.Protocols.{AreOfAnotherProtocol}
use Rattle.chess_sockets.specs.Portions.{is_dear, IsDearLine, AreMost}
use Rattle.chess_sockets.specs.Pieces.{Takes}
use Rattle.chess_sockets.proofs.PortionLemmas.{none-dear, dear-longer}

-- nothing was read
pub takes-nothing : (now : Option (List ℕ)) (holds : List ℕ) → Takes now now holds holds
takes-nothing now holds = record {
  taken = [];
  consumed = Consumes-nil now;
  unfinished = λ some. absurd (some refl);
  order = sym (append-nil holds);
}

-- a read found nothing
pub takes-kept : (before after : Option (List ℕ)) (holds keeps : List ℕ) → Keeps before after → keeps ≡ holds →
    Takes before after holds keeps
takes-kept before after holds keeps kept same = record {
  taken = [];
  consumed = Consumes-kept before before after [] (Consumes-nil before) kept;
  unfinished = λ some. absurd (some refl);
  order = same ∙ sym (append-nil holds);
}

-- ---- why it is held up

pub some_all : {A : Type 0} (P : A → Type 0) (m : Option A) → ((x : A) → P x) → IfSome m P
some_all P None all = tt
some_all P (Some x) all = all x

-- it is not open
pub some_closed : {A : Type 0} (P : A → Type 0) (m : Option A) → (IsSome m → ⊥) → IfSome m P
some_closed P None closed = tt
some_closed P (Some x) closed = absurd (closed refl)

pub some_at : {A : Type 0} (P : A → Type 0) (m n : Option A) → n ≡ m → IfSome m P → IfSome n P
some_at {A = A} P m n same holds = subst (λ (o : Option A). IfSome o P) (sym same) holds

module _ (unsent keeps : List ℕ) (m n : Option SessionState) where
  abbrev pub IsUp : SessionState → Type 0
  IsUp s = IsHeldUp unsent keeps s n

  -- no line is held back
  pub up_unfinished : IsUnfinished keeps → IfSome m IsUp
  up_unfinished unfinished = some_all IsUp m (λ s. inr (inr (inr unfinished)))

  -- answers wait
  pub up_unsent : unsent ≢ [] → IfSome m IsUp
  up_unsent some = some_all IsUp m (λ s. inl some)

some_bytes : (bytes : List ℕ) (count : ℕ) → count ≡ length bytes → 0 < count → bytes ≢ []
some_bytes bytes count is some = λ none. absurd (omega (arith, is, some, ap (λ (l : List ℕ). length l) none))

-- lines of its session wait
pub up_lines : (unsent keeps : List ℕ) (m n : Option SessionState) (count : ℕ) →
    IfSome m (λ s. count ≡ length s.heard.bytes) → 0 < count → IfSome m (λ s. IsHeldUp unsent keeps s n)
up_lines unsent keeps None n count is some = tt
up_lines unsent keeps (Some s) n count is some = inr (inl (some_bytes s.heard.bytes count is some))

no_bytes : (bytes : List ℕ) (count : ℕ) → count ≡ length bytes → count ≤ 0 → bytes ≡ []
no_bytes [] count is none = refl
no_bytes (b ∷ bytes) count is none = absurd (omega (arith, is, none))

-- no line of its session waits
pub none_lines : (m : Option SessionState) (count : ℕ) → IfSome m (λ s. count ≡ length s.heard.bytes) → count ≤ 0 →
    IfSome m (λ s. s.heard.bytes ≡ [])
none_lines None count is none = tt
none_lines (Some s) count is none = no_bytes s.heard.bytes count is none

-- ---- for how many turns it waits

-- for as many as before
pub waits-still : (HeldUp : Type 0) (room longest : ℕ) (keeps : List ℕ) (waited waits : ℕ) → HeldUp → waits ≡ waited →
    HasWaitedOn HeldUp room longest [] keeps waited waits
waits-still HeldUp room longest keeps waited waits up same = record {
  given = λ some. absurd (some refl);
  kept = λ none. inl (up, same);
}

-- for one more, with a portion that asks for much
pub waits-longer : (HeldUp : Type 0) (room longest : ℕ) (holds portion rest : List ℕ) (waited waits : ℕ) →
    holds ≡ portion ++ rest → (is_dear portion ≡ false → ⊥) → waits ≡ min (waited + 1) (2 ^ 32 - 1) →
    (room ≡ 0) ⊎ (waited < longest) → HasWaitedOn HeldUp room longest [] holds waited waits
waits-longer HeldUp room longest holds portion rest waited waits order dear is behind = record {
  given = λ some. absurd (some refl);
  kept = λ none. inr (inr (
    is,
    subst (λ (l : List ℕ). is_dear l ≡ true) (sym order) (dear-longer portion rest (elim (cases_Bool (is_dear portion)) [
      | inl much ↦ much
      | inr little ↦ absurd (dear little)
    ])),
    behind,
  ));
}

-- for none, behind a portion
pub waits-no-more : (HeldUp : Type 0) (room longest : ℕ) (holds portion keeps : List ℕ) (waited waits : ℕ) →
    keeps ≡ drop (length portion) holds → (portion ≡ [] → IsUnfinished holds) → waits ≡ 0 →
    HasWaitedOn HeldUp room longest portion keeps waited waits
waits-no-more HeldUp room longest holds portion keeps waited waits left some is = record {
  given = λ given. is;
  kept = λ none. inr (inl (
    is,
    subst (λ (l : List ℕ). IsUnfinished l) (sym (left ∙ ap (λ (l : List ℕ). drop (length l) holds) none)) (some none),
  ));
}

-- said of what else holds it up
pub waits-for : {H K : Type 0} (room longest : ℕ) (fed keeps : List ℕ) (waited waits : ℕ) → (H → K) →
    HasWaitedOn H room longest fed keeps waited waits → HasWaitedOn K room longest fed keeps waited waits
waits-for room longest fed keeps waited waits to wait = record {
  given = wait.given;
  kept = λ none. elim (wait.kept none) [
    | inl (up, same) ↦ inl (to up, same)
    | inr (inl no_more) ↦ inr (inl no_more)
    | inr (inr longer) ↦ inr (inr longer)
  ];
}

-- ---- whether it has spoken

-- it is given something where it is given some bytes
pub some_given : (fed : List ℕ) → fed ≢ [] → 0 < length fed
some_given [] some = absurd (some refl)
some_given (b ∷ fed) some = omega arith

pub none_given : (fed : List ℕ) → fed ≡ [] → length fed ≤ 0
none_given fed none = omega (arith, ap (λ (l : List ℕ). length l) none)

-- given nothing, as before
pub spoken-still : (holds : List ℕ) (old new : Bool) → new ≡ old → HasSpokenOn holds [] old new
spoken-still holds old new same = record {
  given = λ some. absurd (some refl);
  kept = λ none. same;
  foreign = λ quiet other. refl;
}

-- given the front of what begins as this protocol may
pub spoken-now : (holds fed : List ℕ) (old new any : Bool) → (old ≡ false → AreOfAnotherProtocol holds → ⊥) →
    new ≡ (old || any) → (fed ≢ [] → any ≡ true) → (fed ≡ [] → any ≡ false) → HasSpokenOn holds fed old new
spoken-now holds fed true new any own is some none = record {
  given = λ given. is;
  kept = λ kept. is;
  foreign = λ quiet other. absurd (own quiet other);
}
spoken-now holds fed false new any own is some none = record {
  given = λ given. is ∙ some given;
  kept = λ kept. is ∙ none kept;
  foreign = λ quiet other. absurd (own quiet other);
}

-- ---- what the session is given

-- the session is given nothing
pub gives-nothing : (stood stands : Standing) (room left longest : ℕ) (m n : Option SessionState) (unsent holds : List ℕ) →
    left ≡ room → n ≡ m → stands.has_spoken ≡ stood.has_spoken →
    IfSome m (λ s. HasWaitedOn (IsHeldUp unsent holds s n) room longest [] holds stood.waited stands.waited) →
    IfSome m (λ s. GivesOn (ahead longest unsent) (pends holds stood room) (pends holds stands left) s n)
gives-nothing stood stands room left longest None n unsent holds still same quiet wait = tt
gives-nothing stood stands room left longest (Some s) n unsent holds still same quiet wait = record {
  fed = [];
  order = refl;
  heard = subst (λ (o : Option SessionState). IfSome o (HasHeard s [])) (sym same) (inr (inl (refl, refl)));
  gone = λ closed. refl;
  many = λ some. absurd (some refl);
  fewer = omega (arith, still);
  dear = none-dear;
  spent = inl still;
  wait = wait;
  first = spoken-still holds stood.has_spoken stands.has_spoken quiet;
}

-- nor waits for more turns, since it is held up
pub gives-none-up : (stood stands : Standing) (room longest : ℕ) (m n : Option SessionState) (unsent holds : List ℕ) →
    n ≡ m → IfSome m (λ s. IsHeldUp unsent holds s n) → stands ≡ stood →
    IfSome m (λ s. GivesOn (ahead longest unsent) (pends holds stood room) (pends holds stands room) s n)
gives-none-up stood stands room longest None n unsent holds same up still = tt
gives-none-up stood stands room longest (Some s) n unsent holds same up still =
    gives-nothing stood stands room room longest (Some s) n unsent holds refl same (ap (λ t. t.has_spoken) still)
    (waits-still (IsHeldUp unsent holds s n) room longest holds stood.waited stands.waited up (ap (λ t. t.waited) still))

-- but waits for one more
pub gives-none-yet : (stood stands : Standing) (room left longest : ℕ) (m : Option SessionState)
    (unsent holds portion rest : List ℕ) → left ≡ room → holds ≡ portion ++ rest → (is_dear portion ≡ false → ⊥) →
    stands.waited ≡ min (stood.waited + 1) (2 ^ 32 - 1) → stands.has_spoken ≡ stood.has_spoken →
    (room ≡ 0) ⊎ (stood.waited < longest) → IfSome m (λ s. GivesOn (ahead longest unsent) (pends holds stood room) (pends holds stands left) s m)
gives-none-yet stood stands room left longest None unsent holds portion rest still order dear is quiet behind = tt
gives-none-yet stood stands room left longest (Some s) unsent holds portion rest still order dear is quiet behind =
    gives-nothing stood stands room left longest (Some s) (Some s) unsent holds still refl quiet
    (waits-longer (IsHeldUp unsent holds s (Some s)) room longest holds portion rest stood.waited stands.waited order dear is
    behind)

-- it is closed
pub gives-closed : (stood stands : Standing) (room left longest : ℕ) (m n : Option SessionState) (unsent holds : List ℕ) →
    left ≤ room → n ≡ None → stands ≡ stood →
    IfSome m (λ s. GivesOn (ahead longest unsent) (pends holds stood room) (pends holds stands left) s n)
gives-closed stood stands room left longest None n unsent holds le closed still = tt
gives-closed stood stands room left longest (Some s) n unsent holds le closed still = record {
  fed = [];
  order = refl;
  heard = subst (λ (o : Option SessionState). IfSome o (HasHeard s [])) (sym closed) tt;
  gone = λ none. refl;
  many = λ some. absurd (some refl);
  fewer = le;
  dear = none-dear;
  spent = inr (inr closed);
  wait = waits-still (IsHeldUp unsent holds s n) room longest holds stood.waited stands.waited (inr (inr (inl closed)))
      (ap (λ t. t.waited) still);
  first = spoken-still holds stood.has_spoken stands.has_spoken (ap (λ t. t.has_spoken) still);
}

-- it is given this
pub gives-fed : (stood stands : Standing) (room left longest : ℕ) (m n : Option SessionState)
    (unsent holds fed keeps : List ℕ) → holds ≡ fed ++ keeps → AreMost fed keeps → left ≤ room →
    (IsDearLine fed → (left + 1 ≤ room) × (longest ≤ stood.waited)) → (left ≡ room) ⊎ (is_dear fed ≡ true) →
    IfSome m (λ s. IsSomeAnd n (HasHeard s fed)) → keeps ≡ drop (length fed) holds → (fed ≡ [] → IsUnfinished holds) →
    stands.waited ≡ 0 → HasSpokenOn holds fed stood.has_spoken stands.has_spoken →
    IfSome m (λ s. GivesOn (ahead longest unsent) (pends holds stood room) (pends keeps stands left) s n)
gives-fed stood stands room left longest None n unsent holds fed keeps order most le dear spent heard behind some is first = tt
gives-fed stood stands room left longest (Some s) None unsent holds fed keeps order most le dear spent heard behind some is
    first =
    absurd heard
gives-fed stood stands room left longest (Some s) (Some r) unsent holds fed keeps order most le dear spent
    heard behind some is first = record {
      fed = fed;
      order = order;
      heard = heard;
      gone = λ none. absurd (let bad : Some r ≡ None = none in cc);
      many = λ given. most;
      fewer = le;
      dear = dear;
      spent = elim spent [
        | inl still ↦ inl still
        | inr much ↦ inr (inl much)
      ];
      wait = waits-no-more (IsHeldUp unsent keeps s (Some r)) room longest holds fed keeps stood.waited stands.waited behind
          some is;
      first = first;
    }

-- what is left once the front was given up
pub is-rest : (holds fed rest keeps : List ℕ) → holds ≡ fed ++ rest → keeps ≡ drop (length fed) holds → keeps ≡ rest
is-rest holds fed rest keeps cut left = left ∙ ap (λ l. drop (length fed) l) cut ∙ drop-append_seam fed rest

pub cut-off : (holds fed rest keeps : List ℕ) → holds ≡ fed ++ rest → keeps ≡ drop (length fed) holds → holds ≡ fed ++ keeps
cut-off holds fed rest keeps cut left = cut ∙ ap (λ l. fed ++ l) (sym (is-rest holds fed rest keeps cut left))

pub most-left : (holds fed rest keeps : List ℕ) → holds ≡ fed ++ rest → keeps ≡ drop (length fed) holds →
    AreMost fed rest → AreMost fed keeps
most-left holds fed rest keeps cut left most =
    subst (λ (l : List ℕ). AreMost fed l) (sym (is-rest holds fed rest keeps cut left)) most

-- nothing came where what is held back is as before
taken_none : (holds taken : List ℕ) → holds ++ taken ≡ holds → taken ≡ []
taken_none holds taken same = no_bytes taken (length taken) refl
    (omega (arith, simp length-append at (ap (λ (l : List ℕ). length l) same)))

-- what came is held back, and then the session is given what stands in front, or closed where that begins as another
-- protocol does
pub takes-in : (stood stands : Standing) (room left longest : ℕ) (m n : Option SessionState) (before after : Option (List ℕ))
    (unsent holds between keeps : List ℕ) → Takes before after holds between →
    IfSome m (λ s. GivesOn (ahead longest unsent) (pends between stood room) (pends keeps stands left) s n) →
    (stood.has_spoken ≡ false → AreOfAnotherProtocol between → (between ≡ holds) ⊎ (n ≡ None)) →
    IfSome m (λ s. TakesIn before after (ahead longest unsent) (pends holds stood room) (pends keeps stands left) s n)
takes-in stood stands room left longest None n before after unsent holds between keeps takes gives closes = tt
takes-in stood stands room left longest (Some s) n before after unsent holds between keeps takes gives closes = record {
  taken = takes.taken;
  consumed = takes.consumed;
  unfinished = takes.unfinished;
  gives = subst (λ l. GivesOn (ahead longest unsent) (pends l stood room) (pends keeps stands left) s n) takes.order gives;
  closes = λ quiet some other.
      elim (closes quiet (subst (λ (l : List ℕ). AreOfAnotherProtocol l) (sym takes.order) other)) [
        | inl same ↦ absurd (some (taken_none holds takes.taken (sym takes.order ∙ same)))
        | inr none ↦ none
      ];
}

-- and nothing goes on where nothing came and no line is held back
pub takes-in-unfinished : (stood stands : Standing) (room longest : ℕ) (m : Option SessionState)
    (before after : Option (List ℕ)) (unsent holds keeps : List ℕ) → Takes before after holds keeps →
    keeps ≡ holds → IsUnfinished holds → stands ≡ stood →
    IfSome m (λ s. TakesIn before after (ahead longest unsent) (pends holds stood room) (pends keeps stands room) s m)
takes-in-unfinished stood stands room longest m before after unsent holds keeps takes same unfinished still =
    takes-in stood stands room room longest m m before after unsent holds keeps keeps takes
    (gives-none-up stood stands room longest m m unsent keeps refl
    (up_unfinished unsent keeps m m (subst (λ (l : List ℕ). IsUnfinished l) (sym same) unfinished)) still)
    (λ quiet other. inl same)

-- who has heard something is not closed
pub heard_open : {Q : Type 0} (m n : Option SessionState) (fed : List ℕ) → IsSome m →
    IfSome m (λ s. IsSomeAnd n (HasHeard s fed)) → n ≡ None → Q
heard_open None n fed is_open heard none = absurd (let bad : false ≡ true = is_open in false≢true bad)
heard_open (Some s) None fed is_open heard none = absurd heard
heard_open (Some s) (Some r) fed is_open heard none = absurd (let bad : Some r ≡ None = none in cc)
