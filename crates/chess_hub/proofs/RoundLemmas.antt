-- After which round a turn has all its lines.
use Rattle.std.proofs.Common.{◌≡◌, ℕ, zero, suc, ◌<◌, ◌≤◌, ◌+◌, List, [], ◌∷◌, ◌++◌, length, take, refl, ap, sym, subst, ◌∙◌, arith, append-nil, length-append, length-take, add-one, Option, Some, None, inl, inr}
use Rattle.std.specs.Prelude.{option_map, slice_get}
use Rattle.std.specs.List.{cons_option}
use Rattle.std.proofs.lemmas.List.{take-append-le, nil_from_length}
use Rattle.std.proofs.lemmas.Bool.{cases_lt}
use Rattle.std.proofs.lemmas.Slice.Zip.{AllZip-long}
use Rattle.chess_hub.specs.declared.turn.TurnLine.{TurnLine}
use Rattle.chess_hub.specs.Turn.{SessionLine, session_line, Waiting, lines_at, rounds, turn_lines, IsTurnLine, AreTurnLines}

-- ---- a round in which nobody has a line

-- there is nothing behind the end
get-none : {X : Type 0} → (xs : List X) (n k : ℕ) → n ≤ k → slice_get xs n ≡ None → slice_get xs k ≡ None
get-none [] n k l none = refl
get-none (x ∷ xs) zero k l none = absurd (let bad : Some x ≡ None = none in cc)
get-none (x ∷ xs) (suc n) zero l none = absurd (omega arith)
get-none (x ∷ xs) (suc n) (suc k) l none = get-none xs n k (omega arith) none

no-line : (sid : ℕ) (o : Option (List ℕ)) → option_map (session_line sid) o ≡ None → o ≡ None
no-line sid None none = refl
no-line sid (Some text) none = absurd (let bad : Some (session_line sid text) ≡ None = none in cc)

neither : (o : Option SessionLine) (rest : List SessionLine) → cons_option o rest ≡ [] → (o ≡ None) × (rest ≡ [])
neither None rest nothing = (refl, nothing)
neither (Some line) rest nothing = absurd (let bad : line ∷ rest ≡ [] = nothing in cc)

-- where no session has a line at a place, none has one at a later place
pub lines-none : (n k : ℕ) (sessions : List Waiting) → n ≤ k → lines_at n sessions ≡ [] → lines_at k sessions ≡ []
lines-none n k [] l nothing = refl
lines-none n k (w ∷ sessions) l nothing =
    let parts = neither (option_map (session_line w.sid) (slice_get w.lines n)) (lines_at n sessions) nothing in
    let none : slice_get w.lines k ≡ None = get-none w.lines n k l (no-line w.sid (slice_get w.lines n) parts.0) in
    ap (λ o. cons_option (option_map (session_line w.sid) o) (lines_at k sessions)) none
    ∙ lines-none n k sessions l parts.1

-- no round after it has a line
pub rounds-none : (n m : ℕ) (sessions : List Waiting) → n ≤ m → lines_at n sessions ≡ [] →
    rounds m sessions ≡ rounds n sessions
rounds-none n zero sessions l nothing = let e : zero ≡ n = omega arith in ap (λ i. rounds i sessions) e
rounds-none n (suc m) sessions l nothing =
    elim (cases_lt n (suc m)) [
      | inl before ↦
          ap (λ xs. rounds m sessions ++ xs) (lines-none n m sessions (omega arith) nothing)
          ∙ append-nil (rounds m sessions) ∙ rounds-none n m sessions (omega arith) nothing
      | inr last ↦ let e : suc m ≡ n = omega arith in ap (λ i. rounds i sessions) e
    ]

-- ---- rounds that have as many lines as a turn may take

still-full : (most : ℕ) (xs ys : List SessionLine) → take most xs ≡ take most ys → most ≤ length ys → most ≤ length xs
still-full most xs ys same full =
    let l : length (take most xs) ≡ length (take most ys) = ap length same in
    omega (arith, length-take most xs, length-take most ys)

-- the rounds after them add nothing to it
pub rounds-full : (most n m : ℕ) (sessions : List Waiting) → n ≤ m → most ≤ length (rounds n sessions) →
    take most (rounds m sessions) ≡ take most (rounds n sessions)
rounds-full most n zero sessions l full = let e : zero ≡ n = omega arith in ap (λ i. take most (rounds i sessions)) e
rounds-full most n (suc m) sessions l full =
    elim (cases_lt n (suc m)) [
      | inl before ↦
          (let same : take most (rounds m sessions) ≡ take most (rounds n sessions) =
          rounds-full most n m sessions (omega arith) full in
          let long : most ≤ length (rounds m sessions) =
          still-full most (rounds m sessions) (rounds n sessions) same full in
          take-append-le most (rounds m sessions) (lines_at m sessions) long ∙ same)
      | inr last ↦ let e : suc m ≡ n = omega arith in ap (λ i. take most (rounds i sessions)) e
    ]

-- ---- when a turn has all its lines

-- where it has as many as it may take
pub turn-full : (most n : ℕ) (sessions : List Waiting) (now : List TurnLine) → n ≤ most →
    AreTurnLines (take most (rounds n sessions)) now → length now ≡ most → AreTurnLines (turn_lines most sessions) now
turn-full most n sessions now l turn full =
    let long : length now ≡ length (take most (rounds n sessions)) =
    AllZip-long IsTurnLine (take most (rounds n sessions)) now turn in
    let enough : most ≤ length (rounds n sessions) = omega (arith, length-take most (rounds n sessions)) in
    subst (λ xs. AreTurnLines xs now) (sym (rounds-full most n most sessions l enough)) turn

-- a round that adds no line to a turn has none, unless the turn has as many as it may
adds-none : (most : ℕ) (xs more : List SessionLine) → length xs < most →
    length (take most (xs ++ more)) ≡ length (take most xs) → more ≡ []
adds-none most xs more short same =
    nil_from_length more (omega (arith, length-take most (xs ++ more), length-take most xs, length-append xs more))

-- where a round added none
pub turn-none : (most n : ℕ) (sessions : List Waiting) (old now : List TurnLine) → n < most →
    AreTurnLines (take most (rounds n sessions)) old → AreTurnLines (take most (rounds (n + 1) sessions)) now →
    length now ≡ length old → AreTurnLines (turn_lines most sessions) now
turn-none most n sessions old now l before after same =
    let next : rounds (n + 1) sessions ≡ rounds n sessions ++ lines_at n sessions =
    ap (λ k. rounds k sessions) (add-one n) in
    let was : length old ≡ length (take most (rounds n sessions)) =
    AllZip-long IsTurnLine (take most (rounds n sessions)) old before in
    let is : length now ≡ length (take most (rounds (n + 1) sessions)) =
    AllZip-long IsTurnLine (take most (rounds (n + 1) sessions)) now after in
    let equal : length (take most (rounds n sessions ++ lines_at n sessions)) ≡ length (take most (rounds n sessions)) =
    ap (λ xs. length (take most xs)) (sym next) ∙ sym is ∙ same ∙ was in
    elim (cases_lt (length (rounds n sessions)) most) [
      | inl short ↦
          (let nothing : lines_at n sessions ≡ [] =
          adds-none most (rounds n sessions) (lines_at n sessions) short equal in
          subst (λ xs. AreTurnLines (take most xs) now)
          (rounds-none n (n + 1) sessions (omega arith) nothing
          ∙ sym (rounds-none n most sessions (omega arith) nothing)) after)
      | inr full ↦
          subst (λ xs. AreTurnLines xs now)
          (rounds-full most n (n + 1) sessions (omega arith) full
          ∙ sym (rounds-full most n most sessions (omega arith) full)) after
    ]
