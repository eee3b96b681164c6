-- How many lines a turn takes of a session, and which lines those are.
use Rattle.std.proofs.Common.{◌≡◌, ◌≢◌, ℕ, zero, suc, ◌+◌, ◌<◌, ◌≤◌, true, false, List, [], ◌∷◌, ◌++◌, length, map, take, get_or, refl, ap, sym, subst, ◌∙◌, arith, Option, Some, None, inl, inr}
use Rattle.std.specs.Prelude.{Bool, ◌==◌, cond, count_by, option_map, slice_get}
use Rattle.std.specs.List.{cons_option}
use Rattle.std.proofs.lemmas.Bool.{cases_lt, ne_eqb}
use Rattle.std.proofs.lemmas.List.Sums.{sum_by-cons, sum_by-append, sum_by-take-le}
use Rattle.std.proofs.lemmas.Option.{slice_get_past}
use Rattle.slab.specs.Slab.{Slab, get, entries_from}
use Rattle.text_lines.specs.Lines.{lines_of}
use Rattle.chess_hub.specs.declared.sessions.Session.{Session}
use Rattle.chess_hub.specs.declared.turn.TurnLine.{TurnLine}
use Rattle.chess_hub.specs.Turn.{SessionLine, session_line, lines_at, rounds, turn_lines, waiting, waiting_in, AreTurnLines}

-- how many lines are of a session
abbrev pub lines_count : ℕ → List SessionLine → ℕ
lines_count sid lines = count_by (λ l. l.sid == sid) lines

abbrev pub taken_of : ℕ → List TurnLine → ℕ
taken_of sid taken = count_by (λ t. t.sid == sid) taken

abbrev pub line_count : Session → ℕ
line_count s = length (lines_of s.lines.bytes)

count-cons : (sid : ℕ) (l : SessionLine) (lines : List SessionLine) →
    lines_count sid (l ∷ lines) ≡ cond (l.sid == sid) 1 0 + lines_count sid lines
count-cons sid l lines = sum_by-cons (λ (l : SessionLine). cond (l.sid == sid) 1 0) l lines

count-append : (sid : ℕ) (xs ys : List SessionLine) →
    lines_count sid (xs ++ ys) ≡ lines_count sid xs + lines_count sid ys
count-append sid xs ys = sum_by-append (λ (l : SessionLine). cond (l.sid == sid) 1 0) xs ys

-- another session's line, or none, before lines
count-other : (sid other : ℕ) (o : Option (List ℕ)) (lines : List SessionLine) → other ≢ sid →
    lines_count sid (cons_option (option_map (session_line other) o) lines) ≡ lines_count sid lines
count-other sid other None lines ne = refl
count-other sid other (Some text) lines ne =
    count-cons sid (session_line other text) lines
    ∙ ap (λ t. cond t 1 0 + lines_count sid lines) (ne_eqb other sid ne) ∙ omega arith

one-at-most : (t : Bool) → cond t 1 0 ≤ 1
one-at-most true = omega arith
one-at-most false = omega arith

count-line : (sid other : ℕ) (o : Option (List ℕ)) (lines : List SessionLine) →
    lines_count sid (cons_option (option_map (session_line other) o) lines) ≤ 1 + lines_count sid lines
count-line sid other None lines = omega arith
count-line sid other (Some text) lines =
    let e : lines_count sid (session_line other text ∷ lines) ≡ cond (other == sid) 1 0 + lines_count sid lines =
    count-cons sid (session_line other text) lines in
    let l : cond (other == sid) 1 0 ≤ 1 = one-at-most (other == sid) in
    omega arith

-- what one round takes of the sessions in slots, where the first has this key
abbrev pub round_from : ℕ → ℕ → List (Option Session) → List SessionLine
round_from place key slots = lines_at place (map waiting (entries_from key slots))

count-past : (sid place key : ℕ) (slots : List (Option Session)) → sid < key →
    lines_count sid (round_from place key slots) ≡ 0
count-past sid place key [] l = refl
count-past sid place key (None ∷ slots) l = count-past sid place (key + 1) slots (omega arith)
count-past sid place key (Some s ∷ slots) l =
    count-other sid key (slice_get (lines_of s.lines.bytes) place) (round_from place (key + 1) slots)
    (λ e. let e : key ≡ sid = e in omega arith)
    ∙ count-past sid place (key + 1) slots (omega arith)

-- A round takes one line of a session at most, and none where so few wait.
pub record IsOneOf (sid place : ℕ) (s : Session) (lines : List SessionLine) : Type 0 where
  pub one : lines_count sid lines ≤ 1
  pub none : line_count s ≤ place → lines_count sid lines ≡ 0

one-here : (sid place : ℕ) (s : Session) (lines : List SessionLine) → lines_count sid lines ≡ 0 →
    IsOneOf sid place s (cons_option (option_map (session_line sid) (slice_get (lines_of s.lines.bytes) place)) lines)
one-here sid place s lines e = record {
  one = (let l : lines_count sid
      (cons_option (option_map (session_line sid) (slice_get (lines_of s.lines.bytes) place)) lines) ≤ 1 + lines_count sid lines = count-line sid sid (slice_get (lines_of s.lines.bytes) place) lines in omega arith);
  none = λ few. ap (λ o. lines_count sid (cons_option (option_map (session_line sid) o) lines))
      (slice_get_past (lines_of s.lines.bytes) place few) ∙ e;
}

one-from : (sid place key k : ℕ) (slots : List (Option Session)) (s : Session) → key + k ≡ sid →
    get_or slots k None ≡ Some s → IsOneOf sid place s (round_from place key slots)
one-from sid place key k [] s e found = absurd (let bad : None ≡ Some s = found in cc)
one-from sid place key zero (None ∷ slots) s e found = absurd (let bad : None ≡ Some s = found in cc)
one-from sid place key zero (Some other ∷ slots) s e found =
    let same : other ≡ s = (let f : Some other ≡ Some s = found in cc) in
    let here : key ≡ sid = omega arith in
    subst (λ n. IsOneOf sid place s (cons_option (option_map (session_line n)
    (slice_get (lines_of other.lines.bytes) place)) (round_from place (key + 1) slots))) (sym here)
    (subst (λ (x : Session). IsOneOf sid place s (cons_option (option_map (session_line sid)
    (slice_get (lines_of x.lines.bytes) place)) (round_from place (key + 1) slots))) (sym same)
    (one-here sid place s (round_from place (key + 1) slots)
    (count-past sid place (key + 1) slots (omega arith))))
one-from sid place key (suc k) (None ∷ slots) s e found =
    one-from sid place (key + 1) k slots s (omega arith) found
one-from sid place key (suc k) (Some other ∷ slots) s e found =
    let rest : IsOneOf sid place s (round_from place (key + 1) slots) =
    one-from sid place (key + 1) k slots s (omega arith) found in
    let same : lines_count sid (round_from place key (Some other ∷ slots))
    ≡ lines_count sid (round_from place (key + 1) slots) =
    count-other sid key (slice_get (lines_of other.lines.bytes) place) (round_from place (key + 1) slots)
    (λ f. let at : key ≡ sid = f in omega arith) in
    record { one = subst (λ n. n ≤ 1) (sym same) rest.one; none = λ few. same ∙ rest.none few }

rounds-few : (sid n : ℕ) (slab : Slab Session) (s : Session) → get slab sid ≡ Some s →
    (lines_count sid (rounds n (waiting_in slab)) ≤ n) × (lines_count sid (rounds n (waiting_in slab)) ≤ line_count s)
rounds-few sid zero slab s found = (omega arith, omega arith)
rounds-few sid (suc n) slab s found =
    let before : (lines_count sid (rounds n (waiting_in slab)) ≤ n)
    × (lines_count sid (rounds n (waiting_in slab)) ≤ line_count s) = rounds-few sid n slab s found in
    let upto : lines_count sid (rounds n (waiting_in slab)) ≤ n = before.0 in
    let within : lines_count sid (rounds n (waiting_in slab)) ≤ line_count s = before.1 in
    let last : IsOneOf sid n s (lines_at n (waiting_in slab)) = one-from sid n 0 sid slab.slots s (omega arith) found in
    let one : lines_count sid (lines_at n (waiting_in slab)) ≤ 1 = last.one in
    let sum : lines_count sid (rounds (suc n) (waiting_in slab))
    ≡ lines_count sid (rounds n (waiting_in slab)) + lines_count sid (lines_at n (waiting_in slab)) =
    count-append sid (rounds n (waiting_in slab)) (lines_at n (waiting_in slab)) in
    elim (cases_lt n (line_count s)) [
      | inl l ↦ (omega arith, omega arith)
      | inr l ↦
          let none : lines_count sid (lines_at n (waiting_in slab)) ≡ 0 = last.none l in
          (omega arith, omega arith)
    ]

taken-counted : (sid : ℕ) (lines : List SessionLine) (taken : List TurnLine) → AreTurnLines lines taken →
    taken_of sid taken ≡ lines_count sid lines
taken-counted sid [] [] zip = refl
taken-counted sid [] (t ∷ taken) zip = absurd zip
taken-counted sid (l ∷ lines) [] zip = absurd zip
taken-counted sid (l ∷ lines) (t ∷ taken) zip =
    sum_by-cons (λ (t : TurnLine). cond (t.sid == sid) 1 0) t taken
    ∙ ap (λ n. cond (n == sid) 1 0 + taken_of sid taken) zip.0.sid
    ∙ ap (λ n. cond (l.sid == sid) 1 0 + n) (taken-counted sid lines taken zip.1)
    ∙ sym (count-cons sid l lines)

-- A turn takes no more lines of a session than wait.
pub taken-few : (sid most : ℕ) (slab : Slab Session) (s : Session) (taken : List TurnLine) → get slab sid ≡ Some s →
    AreTurnLines (turn_lines most (waiting_in slab)) taken → taken_of sid taken ≤ line_count s
taken-few sid most slab s taken found zip =
    let e : taken_of sid taken ≡ lines_count sid (turn_lines most (waiting_in slab)) =
    taken-counted sid (turn_lines most (waiting_in slab)) taken zip in
    let cut : lines_count sid (take most (rounds most (waiting_in slab)))
    ≤ lines_count sid (rounds most (waiting_in slab)) =
    sum_by-take-le (λ (l : SessionLine). cond (l.sid == sid) 1 0) (rounds most (waiting_in slab)) most in
    let few : lines_count sid (rounds most (waiting_in slab)) ≤ line_count s = (rounds-few sid most slab s found).1 in
    omega arith
