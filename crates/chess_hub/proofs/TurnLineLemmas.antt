-- The lines of a turn.
use Rattle.std.proofs.Common.{◌≡◌, ℕ, zero, suc, ◌<◌, ◌≤◌, ◌+◌, List, [], ◌∷◌, ◌++◌, length, take, map, refl, ap, sym, subst, ◌∙◌, arith, append_assoc, append-nil, length-append, length-take, add-one, Option, Some, None}
use Rattle.std.specs.Prelude.{option_map, slice_get}
use Rattle.std.specs.List.{All, Contains, cons_option}
use Rattle.std.specs.Prelude.{IsSome, is_some}
use Rattle.std.proofs.lemmas.List.Elements.{All-cons, All-nil, All-head, All-tail, All-append, All-take, All-map, Contains-get_or}
use Rattle.slab.specs.Slab.{Slab, get, entries}
use Rattle.slab.proofs.SlabLemmas.{Contains-entries}
use Rattle.std.proofs.lemmas.List.{take-append-le, take_all, drop_all, drop-drop, length-drop, get_or_past}
use Rattle.std.proofs.lemmas.Option.{slice_get_past}
use Rattle.std.proofs.lemmas.Bool.{cases_lt}
use Rattle.std.proofs.Common.{drop, drop-cons, ◌-◌, ◌⊎◌, inl, inr}
use Rattle.slab.specs.Slab.{entries_from}
use Rattle.std.proofs.lemmas.Slice.Zip.{AllZip-long}
use Rattle.std.proofs.Common.{get_or}
use Rattle.std.specs.Prelude.{IfSome, IfNone, Result, Ok, Err, OnOk, is_ok, if◌then◌else◌}
use Rattle.std.specs.Option.{MatchOption}
use Rattle.chess_line.specs.declared.lines.Line.{Line}
use Rattle.chess_line.specs.Line.{IsLineOf}
use Rattle.chess_hub.specs.declared.sessions.Session.{Session}
use Rattle.chess_hub.specs.declared.turn.TurnLine.{TurnLine}
use Rattle.chess_hub.specs.Turn.{SessionLine, session_line, Waiting, waiting, waiting_in, line_of, lines_at, rounds, turn_lines, IsReading, IsTurnLine, AreTurnLines, MoreTurnLines}

-- where there may be no more, none comes
pub more-full : (most : ℕ) (old : List TurnLine) (more : List SessionLine) → most ≤ length old →
    MoreTurnLines most old old more
more-full most old more full lines turn =
    let l : length old ≡ length (take most lines) = AllZip-long IsTurnLine (take most lines) old turn in
    let long : most ≤ length lines = omega (arith, length-take most lines) in
    subst (λ xs. AreTurnLines xs old) (sym (take-append-le most lines more long)) turn

zip-push : (xs : List SessionLine) (ys : List TurnLine) (x : SessionLine) (y : TurnLine) → AreTurnLines xs ys →
    IsTurnLine x y → AreTurnLines (xs ++ x ∷ []) (ys ++ y ∷ [])
zip-push [] [] x y zip one = (one, tt)
zip-push [] (b ∷ ys) x y zip one = absurd zip
zip-push (a ∷ xs) [] x y zip one = absurd zip
zip-push (a ∷ xs) (b ∷ ys) x y zip one = (zip.0, zip-push xs ys x y zip.1 one)

-- one line more
pub more-push : (most : ℕ) (old : List TurnLine) (line : SessionLine) (one : TurnLine) → length old < most →
    IsTurnLine line one → MoreTurnLines most old (old ++ one ∷ []) (line ∷ [])
more-push most old line one room is lines turn =
    let l : length old ≡ length (take most lines) = AllZip-long IsTurnLine (take most lines) old turn in
    let short : length lines < most = omega (arith, length-take most lines) in
    let all : take most lines ≡ lines = take_all most lines (omega arith) in
    let same : take most (lines ++ line ∷ []) ≡ lines ++ line ∷ [] =
    take_all most (lines ++ line ∷ []) (omega (arith, length-append lines (line ∷ []))) in
    subst (λ xs. AreTurnLines xs (old ++ one ∷ [])) (sym same)
    (zip-push lines old line one (subst (λ xs. AreTurnLines xs old) all turn) is)

-- more, and then more
pub more-then : (most : ℕ) (old mid new : List TurnLine) (first second : List SessionLine) →
    MoreTurnLines most old mid first → MoreTurnLines most mid new second → MoreTurnLines most old new (first ++ second)
more-then most old mid new first second a b lines turn =
    subst (λ xs. AreTurnLines (take most xs) new) (append_assoc lines first second) (b (lines ++ first) (a lines turn))

pub more-none : (most : ℕ) (old : List TurnLine) → MoreTurnLines most old old []
more-none most old lines turn = subst (λ xs. AreTurnLines (take most xs) old) (sym (append-nil lines)) turn

-- ---- whose lines they are

-- the session of a number is opens
abbrev pub IsOpen : Slab Session → ℕ → Type 0
IsOpen slab sid = IsSome (get slab sid)

pub open-lines : (slab : Slab Session) (place : ℕ) (sessions : List Waiting) → All (λ w. IsOpen slab w.sid) sessions →
    All (λ l. IsOpen slab l.sid) (lines_at place sessions)
open-lines slab place [] h = All-nil (λ l. IsOpen slab l.sid)
open-lines slab place (w ∷ sessions) h =
    let opens : IsOpen slab w.sid = All-head (λ w. IsOpen slab w.sid) w sessions h in
    let rest : All (λ l. IsOpen slab l.sid) (lines_at place sessions) =
    open-lines slab place sessions (All-tail (λ w. IsOpen slab w.sid) w sessions h) in
    elim (slice_get w.lines place) as (λ o. All (λ l. IsOpen slab l.sid)
    (cons_option (option_map (session_line w.sid) o) (lines_at place sessions))) [
      | None ↦ rest
      | Some text ↦ All-cons (λ l. IsOpen slab l.sid) (session_line w.sid text) (lines_at place sessions) opens rest
    ]

pub open-rounds : (slab : Slab Session) (n : ℕ) (sessions : List Waiting) → All (λ w. IsOpen slab w.sid) sessions →
    All (λ l. IsOpen slab l.sid) (rounds n sessions)
open-rounds slab zero sessions h = All-nil (λ l. IsOpen slab l.sid)
open-rounds slab (suc n) sessions h =
    All-append (λ l. IsOpen slab l.sid) (rounds n sessions) (lines_at n sessions) (open-rounds slab n sessions h)
    (open-lines slab n sessions h)

open-entry : (slab : Slab Session) (e : ℕ × Session) → Contains (entries slab) e → IsOpen slab e.0
open-entry slab e h =
    let same : get slab e.0 ≡ Some e.1 = (Contains-entries slab e.0 e.1).0 h in
    ap is_some same

pub open-waiting : (slab : Slab Session) → All (λ w. IsOpen slab w.sid) (waiting_in slab)
open-waiting slab =
    All-map (λ w. IsOpen slab w.sid) waiting (entries slab)
    (λ k d h. open-entry slab (get_or (entries slab) k d) (Contains-get_or (entries slab) k d h))

pub open-turn : (slab : Slab Session) (most : ℕ) → All (λ l. IsOpen slab l.sid) (turn_lines most (waiting_in slab))
open-turn slab most =
    All-take (λ l. IsOpen slab l.sid) most (rounds most (waiting_in slab))
    (open-rounds slab most (waiting_in slab) (open-waiting slab))

-- so are the sessions of the lines as they are read
pub open-read : (slab : Slab Session) (lines : List SessionLine) (turn : List TurnLine) → AreTurnLines lines turn →
    All (λ l. IsOpen slab l.sid) lines → All (λ t. IsOpen slab t.sid) turn
open-read slab [] [] zip h = All-nil (λ t. IsOpen slab t.sid)
open-read slab [] (t ∷ turn) zip h = absurd zip
open-read slab (l ∷ lines) [] zip h = absurd zip
open-read slab (l ∷ lines) (t ∷ turn) zip h =
    All-cons (λ t. IsOpen slab t.sid) t turn
    (subst (IsOpen slab) (sym zip.0.sid) (All-head (λ l. IsOpen slab l.sid) l lines h))
    (open-read slab lines turn zip.1 (All-tail (λ l. IsOpen slab l.sid) l lines h))

-- ---- a round

-- The lines of a turn in the midst of a round: of the sessions before those that are left.
pub record InRound (most place : ℕ) (all left : List Waiting) (old now : List TurnLine) : Type 0 where
  pub done : List SessionLine
  pub split : lines_at place all ≡ done ++ lines_at place left
  pub more : MoreTurnLines most old now done

-- all sessions were asked
pub round-done : (most place : ℕ) (all left : List Waiting) (old now : List TurnLine) →
    InRound most place all left old now → left ≡ [] → MoreTurnLines most old now (lines_at place all)
round-done most place all left old now h none =
    subst (MoreTurnLines most old now)
    (sym (h.split ∙ ap (λ ws. h.done ++ lines_at place ws) none ∙ append-nil h.done)) h.more

-- a round after rounds
pub rounds-more : (most n : ℕ) (sessions : List Waiting) (old now : List TurnLine) →
    AreTurnLines (take most (rounds n sessions)) old → MoreTurnLines most old now (lines_at n sessions) →
    AreTurnLines (take most (rounds (n + 1) sessions)) now
rounds-more most n sessions old now turn more =
    subst (λ k. AreTurnLines (take most (rounds k sessions)) now) (sym (add-one n)) (more (rounds n sessions) turn)

-- ---- slots

get-drop : {X : Type 0} → (xs : List X) (i : ℕ) → slice_get xs i ≡ slice_get (drop i xs) 0
get-drop [] zero = refl
get-drop [] (suc i) = refl
get-drop (x ∷ xs) zero = refl
get-drop (x ∷ xs) (suc i) = get-drop xs i

pub drop-step : {X : Type 0} → (xs : List X) (i : ℕ) (x : X) (rest : List X) → drop i xs ≡ x ∷ rest → drop (i + 1) xs ≡ rest
drop-step xs i x rest e = sym (drop-drop 1 i xs) ∙ ap (drop 1) e

pub nth-none : {X : Type 0} → (xs : List X) (i : ℕ) → drop i xs ≡ [] → slice_get xs i ≡ None
nth-none xs i e = get-drop xs i ∙ ap (λ l. slice_get l 0) e

pub nth-some : {X : Type 0} → (xs : List X) (i : ℕ) (x : X) (rest : List X) → drop i xs ≡ x ∷ rest → slice_get xs i ≡ Some x
nth-some xs i x rest e = get-drop xs i ∙ ap (λ l. slice_get l 0) e

-- past the end there is nothing
pub past-none : {X : Type 0} → (xs : List X) (i k : ℕ) → drop i xs ≡ [] → i ≤ k → slice_get xs k ≡ None
past-none xs i k e le =
    let l : length xs - i ≡ 0 = sym (length-drop i xs) ∙ ap length e in
    slice_get_past xs k (omega arith)

-- the sessions from a slot on
abbrev pub waiting_from : Slab Session → ℕ → List Waiting
waiting_from slab i = map waiting (entries_from i (drop i slab.slots))

slot-cases : (slab : Slab Session) (i : ℕ) →
    (drop i slab.slots ≡ get slab i ∷ drop (i + 1) slab.slots) ⊎ ((drop i slab.slots ≡ []) × (drop (i + 1) slab.slots ≡ [])
    × (get slab i ≡ None))
slot-cases slab i =
    elim (cases_lt i (length slab.slots)) [
      | inl l ↦ inl (drop-cons slab.slots i None l ∙ ap (λ k. get slab i ∷ drop k slab.slots) (sym (add-one i)))
      | inr l ↦ inr (drop_all i slab.slots l, drop_all (i + 1) slab.slots (omega arith), get_or_past slab.slots i None l)
    ]

pub slot-none : (slab : Slab Session) (i : ℕ) → get slab i ≡ None → waiting_from slab i ≡ waiting_from slab (i + 1)
slot-none slab i none =
    elim (slot-cases slab i) [
      | inl e ↦ ap (λ l. map waiting (entries_from i l)) (e ∙ ap (λ o. o ∷ drop (i + 1) slab.slots) none)
      | inr e ↦ ap (λ l. map waiting (entries_from i l)) e.0 ∙ sym (ap (λ l. map waiting (entries_from (i + 1) l)) e.1)
    ]

pub slot-some : (slab : Slab Session) (i : ℕ) (session : Session) → get slab i ≡ Some session →
    waiting_from slab i ≡ waiting (i, session) ∷ waiting_from slab (i + 1)
slot-some slab i session some =
    elim (slot-cases slab i) [
      | inl e ↦ ap (λ l. map waiting (entries_from i l)) (e ∙ ap (λ o. o ∷ drop (i + 1) slab.slots) some)
      | inr e ↦ absurd (let bad : None ≡ Some session = sym e.2 ∙ some in cc)
    ]

pub slot-past : (slab : Slab Session) (i : ℕ) → length slab.slots ≤ i → waiting_from slab i ≡ []
slot-past slab i l = ap (λ s. map waiting (entries_from i s)) (drop_all i slab.slots l)

one-more : (o : Option SessionLine) (rest : List SessionLine) → cons_option o rest ≡ cons_option o [] ++ rest
one-more None rest = refl
one-more (Some line) rest = refl

pub round-one : (most place : ℕ) (all left : List Waiting) (w : Waiting) (old mid now : List TurnLine) →
    InRound most place all (w ∷ left) old mid → MoreTurnLines most mid now (line_of w.sid place w.lines) →
    InRound most place all left old now
round-one most place all left w old mid now h more = record {
  done = h.done ++ line_of w.sid place w.lines;
  split = h.split ∙ ap (λ xs. h.done ++ xs) (one-more (option_map (session_line w.sid) (slice_get w.lines place))
      (lines_at place left)) ∙ sym (append_assoc h.done (line_of w.sid place w.lines) (lines_at place left));
  more = more-then most old mid now h.done (line_of w.sid place w.lines) h.more more;
}

-- what `line_at` finds
pub found : {B : Type 0} → (view : B → List ℕ) (o : Option B) (all left more : List (List ℕ)) (i : ℕ) → left ≡ drop i all →
    IfSome o (λ b. left ≡ view b ∷ more) → IfNone o (left ≡ []) →
    MatchOption o (slice_get all i ≡ None) (λ b. slice_get all i ≡ Some (view b))
found view None all left more i e some none = nth-none all i (sym e ∙ none)
found view (Some b) all left more i e some none = nth-some all i (view b) more (sym e ∙ some)

pub reading : (text : List ℕ) (o : Option Line) → IfSome o (IsLineOf text) →
    IfNone o ((line : Line) → ¬ IsLineOf text line) → IsReading text o
reading text None some none = none
reading text (Some line) some none = some

-- one line more, if memory was given
pub push-result : {R E : Type 0} → (r : Result R E) (most sid place : ℕ) (lines : List (List ℕ))
    (old new : List TurnLine) (text : List ℕ) (one : TurnLine) → new ≡ (if is_ok r then old ++ one ∷ [] else old) →
    slice_get lines place ≡ Some text → length old < most → IsTurnLine (session_line sid text) one →
    OnOk r (MoreTurnLines most old new (line_of sid place lines))
push-result (Ok u) most sid place lines old new text one items some room is =
    subst (λ xs. MoreTurnLines most old new xs)
    (sym (ap (λ o. cons_option (option_map (session_line sid) o) []) some))
    (subst (λ ts. MoreTurnLines most old ts (session_line sid text ∷ [])) (sym items)
    (more-push most old (session_line sid text) one room is))
push-result (Err e) most sid place lines old new text one items some room is = tt

pub line-none : (most sid place : ℕ) (lines : List (List ℕ)) (old : List TurnLine) → slice_get lines place ≡ None →
    MoreTurnLines most old old (line_of sid place lines)
line-none most sid place lines old none =
    subst (λ xs. MoreTurnLines most old old xs)
    (sym (ap (λ o. cons_option (option_map (session_line sid) o) []) none)) (more-none most old)
