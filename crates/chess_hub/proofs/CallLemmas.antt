-- Which session has a number.
use Rattle.std.proofs.Common.{◌≡◌, ◌≢◌, ℕ, suc, ◌≤◌, ◌<◌, Bool, true, false, List, [], ◌∷◌, ◌++◌, refl, ap, sym, subst, ◌∙◌, arith, inl, inr}
use Rattle.std.specs.Prelude.{◌==◌, ◌||◌, not, cond}
use Rattle.std.proofs.lemmas.Bool.{cases_Bool, cases_eq, eqb-true, eq-eqb, ne_eqb, and_parts}
use Rattle.chess_hub.specs.Session.{Said}
use Rattle.chess_hub.specs.Calls.{Call, Connected, Closed, Fed, Turned, Given, is_open, begun_count, which, input_of, given_to}

pub which-begun : (sid : ℕ) (calls : List Call) → which sid calls ≤ begun_count calls
which-begun sid [] = omega arith
which-begun sid (Connected other ∷ calls) =
    let before : which sid calls ≤ begun_count calls = which-begun sid calls in
    elim (other == sid) as (λ t. cond t (suc (begun_count calls)) (which sid calls) ≤ suc (begun_count calls)) [
      | true ↦ omega arith
      | false ↦ omega arith
    ]
which-begun sid (Closed other ∷ calls) = which-begun sid calls
which-begun sid (Fed other piece ∷ calls) = which-begun sid calls
which-begun sid (Turned at most ∷ calls) = which-begun sid calls
which-begun sid (Given other answer ∷ calls) = which-begun sid calls

-- an open session has begun
pub open-begun : (sid : ℕ) (calls : List Call) → is_open sid calls ≡ true → 1 ≤ which sid calls
open-begun sid [] opens = absurd (let bad : false ≡ true = opens in cc)
open-begun sid (Connected other ∷ calls) opens =
    elim (cases_Bool (other == sid)) [
      | inl e ↦ rw e (omega arith)
      | inr e ↦ rw e (open-begun sid calls (ap (λ t. t || is_open sid calls) (sym e) ∙ opens))
    ]
open-begun sid (Closed other ∷ calls) opens =
    open-begun sid calls ((and_parts (not (other == sid)) (is_open sid calls) opens).1)
open-begun sid (Fed other piece ∷ calls) opens = open-begun sid calls opens
open-begun sid (Turned at most ∷ calls) opens = open-begun sid calls opens
open-begun sid (Given other answer ∷ calls) opens = open-begun sid calls opens

which-new : (sid : ℕ) (calls : List Call) (test : Bool) →
    cond test (suc (begun_count calls)) (which sid calls) ≡ suc (begun_count calls) → test ≡ true
which-new sid calls true e = refl
which-new sid calls false e =
    absurd (let h : which sid calls ≤ begun_count calls = which-begun sid calls in omega arith)

not-new : (sid session : ℕ) (calls : List Call) → begun_count calls < session → (which sid calls == session) ≡ false
not-new sid session calls l =
    let h : which sid calls ≤ begun_count calls = which-begun sid calls in
    ne_eqb (which sid calls) session (λ e. let e : which sid calls ≡ session = e in omega arith)

-- a session has one number
pub which-one : (calls : List Call) (a b : ℕ) → which a calls ≡ which b calls → 1 ≤ which a calls → a ≡ b
which-one [] a b e some = absurd (omega arith)
which-one (Connected other ∷ calls) a b e some =
    elim (cases_Bool (other == a)) [
      | inl l ↦
          let new : which b (Connected other ∷ calls) ≡ suc (begun_count calls) =
          sym e ∙ ap (λ t. cond t (suc (begun_count calls)) (which a calls)) l in
          sym (eqb-true other a l) ∙ eqb-true other b (which-new b calls (other == b) new)
      | inr l ↦ elim (cases_Bool (other == b)) [
        | inl r ↦
            let new : which a (Connected other ∷ calls) ≡ suc (begun_count calls) =
            e ∙ ap (λ t. cond t (suc (begun_count calls)) (which b calls)) r in
            sym (eqb-true other a (which-new a calls (other == a) new)) ∙ eqb-true other b r
        | inr r ↦
            let here : which a (Connected other ∷ calls) ≡ which a calls =
            ap (λ t. cond t (suc (begun_count calls)) (which a calls)) l in
            let there : which b (Connected other ∷ calls) ≡ which b calls =
            ap (λ t. cond t (suc (begun_count calls)) (which b calls)) r in
            which-one calls a b (sym here ∙ e ∙ there) (subst (λ n. 1 ≤ n) here some)
      ]
    ]
which-one (Closed other ∷ calls) a b e some = which-one calls a b e some
which-one (Fed other piece ∷ calls) a b e some = which-one calls a b e some
which-one (Turned at most ∷ calls) a b e some = which-one calls a b e some
which-one (Given other answer ∷ calls) a b e some = which-one calls a b e some

-- the test of two sessions is that of their numbers
pub same-session : (calls : List Call) (a b : ℕ) → is_open a calls ≡ true →
    (which a calls == which b calls) ≡ (a == b)
same-session calls a b opens =
    elim (cases_eq a b) [
      | inl e ↦ eq-eqb (which a calls) (which b calls) (ap (λ n. which n calls) e) ∙ sym (eq-eqb a b e)
      | inr ne ↦ ne_eqb (which a calls) (which b calls) (λ e. ne (which-one calls a b e (open-begun a calls opens)))
          ∙ sym (ne_eqb a b ne)
    ]

-- of a session that has not begun nothing is told
pub input-new : (session : ℕ) (calls : List Call) → begun_count calls < session → input_of session calls ≡ []
input-new session [] l = refl
input-new session (Connected sid ∷ calls) l = input-new session calls (omega arith)
input-new session (Closed sid ∷ calls) l = input-new session calls l
input-new session (Fed sid piece ∷ calls) l =
    let test : (which sid calls == session) ≡ false = not-new sid session calls l in
    rw test (input-new session calls l)
input-new session (Turned at most ∷ calls) l = input-new session calls l
input-new session (Given sid answer ∷ calls) l = input-new session calls l

pub given-new : (session : ℕ) (calls : List Call) → begun_count calls < session → given_to session calls ≡ []
given-new session [] l = refl
given-new session (Connected sid ∷ calls) l = given-new session calls (omega arith)
given-new session (Closed sid ∷ calls) l = given-new session calls l
given-new session (Fed sid piece ∷ calls) l = given-new session calls l
given-new session (Turned at most ∷ calls) l = given-new session calls l
given-new session (Given sid answer ∷ calls) l =
    let test : (which sid calls == session) ≡ false = not-new sid session calls l in
    rw test (given-new session calls l)

-- ---- what is told of one number

-- what calls tell of the session that has a number, or had it last
pub record View : Type 0 where
  pub is_open : Bool
  pub session : ℕ
  pub input : List ℕ
  pub given : List Said

abbrev pub view : List Call → ℕ → View
view calls sid = record {
  is_open = is_open sid calls;
  session = which sid calls;
  input = input_of (which sid calls) calls;
  given = given_to (which sid calls) calls;
}

apart : (sid other : ℕ) → other ≢ sid → (sid == other) ≡ false
apart sid other ne = ne_eqb sid other (λ e. ne (sym e))

same : (n : ℕ) → (n == n) ≡ true
same n = eq-eqb n n refl

other-session : (calls : List Call) (sid other : ℕ) → is_open sid calls ≡ true → other ≢ sid →
    (which sid calls == which other calls) ≡ false
other-session calls sid other opens ne = same-session calls sid other opens ∙ apart sid other ne

-- what calls that send and give nothing more tell of a session
abbrev told_of : List Call → Bool → ℕ → View
told_of calls opens session = record {
  is_open = opens;
  session = session;
  input = input_of session calls;
  given = given_to session calls;
}

after-connect : List Call → ℕ → Bool → View
after-connect calls other test =
    told_of calls (test || is_open other calls) (cond test (suc (begun_count calls)) (which other calls))

pub view-connected : (calls : List Call) (sid : ℕ) → view (Connected sid ∷ calls) sid
    ≡ record { is_open = true; session = suc (begun_count calls); input = []; given = [] }
unfolding after-connect
view-connected calls sid =
    let input : input_of (suc (begun_count calls)) calls ≡ [] =
    input-new (suc (begun_count calls)) calls (omega arith) in
    let given : given_to (suc (begun_count calls)) calls ≡ [] =
    given-new (suc (begun_count calls)) calls (omega arith) in
    ap (after-connect calls sid) (same sid) ∙ rw (input, given) refl

pub view-connected-other : (calls : List Call) (sid other : ℕ) → other ≢ sid →
    view (Connected sid ∷ calls) other ≡ view calls other
unfolding after-connect
view-connected-other calls sid other ne = ap (after-connect calls other) (apart sid other ne)

pub open-closed : (calls : List Call) (sid : ℕ) → is_open sid (Closed sid ∷ calls) ≡ false
open-closed calls sid = let e : (sid == sid) ≡ true = same sid in rw e refl

pub view-closed-other : (calls : List Call) (sid other : ℕ) → other ≢ sid →
    view (Closed sid ∷ calls) other ≡ view calls other
view-closed-other calls sid other ne = let e : (sid == other) ≡ false = apart sid other ne in rw e refl

pub view-fed : (calls : List Call) (sid : ℕ) (piece : List ℕ) → view (Fed sid piece ∷ calls) sid
    ≡ record (view calls sid) { input = input_of (which sid calls) calls ++ piece }
view-fed calls sid piece = let e : (which sid calls == which sid calls) ≡ true = same (which sid calls) in rw e refl

pub view-fed-other : (calls : List Call) (sid other : ℕ) (piece : List ℕ) → is_open sid calls ≡ true → other ≢ sid →
    view (Fed sid piece ∷ calls) other ≡ view calls other
view-fed-other calls sid other piece opens ne =
    let e : (which sid calls == which other calls) ≡ false = other-session calls sid other opens ne in rw e refl

pub view-given : (calls : List Call) (sid : ℕ) (answer : Said) → view (Given sid answer ∷ calls) sid
    ≡ record (view calls sid) { given = given_to (which sid calls) calls ++ answer ∷ [] }
view-given calls sid answer = let e : (which sid calls == which sid calls) ≡ true = same (which sid calls) in rw e refl

pub view-given-other : (calls : List Call) (sid other : ℕ) (answer : Said) → is_open sid calls ≡ true → other ≢ sid →
    view (Given sid answer ∷ calls) other ≡ view calls other
view-given-other calls sid other answer opens ne =
    let e : (which sid calls == which other calls) ≡ false = other-session calls sid other opens ne in rw e refl
