-- What the lines of a turn add to the texts and the names of the sessions.
use Rattle.std.proofs.Common.{◌≡◌, ℕ, suc, ◌+◌, true, false, List, [], ◌∷◌, ◌++◌, length, map, refl, ap, ◌∙◌, arith, append-nil, ◌⊎◌, inl, inr, ◌<◌, ◌≤◌, Option}
use Rattle.std.specs.Prelude.{◌==◌, cond, filter}
use Rattle.std.specs.List.{All, zip}
use Rattle.std.proofs.lemmas.Bool.{cases_Bool, eqb-true, ne_eqb}
use Rattle.std.proofs.lemmas.List.Elements.{All-head, All-tail}
use Rattle.std.proofs.lemmas.List.Sums.{sum_by-cons, sum_by-append}
use Rattle.chess_entry.specs.State.{TableState}
use Rattle.chess_hub.specs.Session.{Said}
use Rattle.chess_hub.specs.Answers.{given_name, renamed}
use Rattle.chess_hub.specs.Delivery.{Answered, own, name_over}
use Rattle.chess_hub.specs.Calls.{Call, is_open, which}
use Rattle.chess_hub.specs.Sessions.{Merged, taken_count, name_from, answers_to, AreAnsweredAfter}
use Rattle.chess_hub.proofs.CallLemmas.{same-session}
use Rattle.chess_hub.proofs.AnswerLemmas.{merged_of}

-- the lines of answers, as they stand in the merged list
abbrev pub lines_in : List Call → ℕ → List Answered → List Merged
lines_in calls at answered = map (λ a. merged_of calls at a.taken) answered

abbrev pub says : List Answered → List Said
says answered = map (λ a. a.said) answered

abbrev pub AnsweredOpen : List Call → List Answered → Type 0
AnsweredOpen calls answered = All (λ a. is_open a.taken.sid calls ≡ true) answered

answers-append : (session : ℕ) (xs ys : List Merged) (ps qs : List Said) → length ps ≡ length xs →
    answers_to session (xs ++ ys) (ps ++ qs) ≡ answers_to session xs ps ++ answers_to session ys qs
answers-append session [] ys [] qs e = refl
answers-append session [] ys (a ∷ ps) qs e = absurd (omega (arith, e))
answers-append session (x ∷ xs) ys [] qs e = absurd (omega (arith, e))
answers-append session (x ∷ xs) ys (a ∷ ps) qs e =
    let rest : answers_to session (xs ++ ys) (ps ++ qs) ≡ answers_to session xs ps ++ answers_to session ys qs =
    answers-append session xs ys ps qs (omega arith) in
    elim (x.session == session) as (λ t. map (λ (p : Merged × Said). p.1)
    (cond t ((x, a) ∷ filter (λ (p : Merged × Said). p.0.session == session) (zip (xs ++ ys) (ps ++ qs)))
    (filter (λ (p : Merged × Said). p.0.session == session) (zip (xs ++ ys) (ps ++ qs))))
    ≡ map (λ (p : Merged × Said). p.1)
    (cond t ((x, a) ∷ filter (λ (p : Merged × Said). p.0.session == session) (zip xs ps)) (filter (λ (p : Merged × Said). p.0.session == session) (zip xs ps))) ++ answers_to session ys qs) [
      | true ↦ ap (λ zs. a ∷ zs) rest
      | false ↦ rest
    ]

answers-own : (calls : List Call) (at sid : ℕ) (answered : List Answered) → AnsweredOpen calls answered →
    answers_to (which sid calls) (lines_in calls at answered) (says answered) ≡ says (own sid answered)
answers-own calls at sid [] opens = refl
answers-own calls at sid (a ∷ answered) opens =
    let rest : answers_to (which sid calls) (lines_in calls at answered) (says answered) ≡ says (own sid answered) =
    answers-own calls at sid answered (All-tail (λ a. is_open a.taken.sid calls ≡ true) a answered opens) in
    let test : (which a.taken.sid calls == which sid calls) ≡ (a.taken.sid == sid) =
    same-session calls a.taken.sid sid (All-head (λ a. is_open a.taken.sid calls ≡ true) a answered opens) in
    ap (λ t. map (λ (p : Merged × Said). p.1) (cond t ((merged_of calls at a.taken, a.said)
    ∷ filter (λ (p : Merged × Said). p.0.session == which sid calls) (zip (lines_in calls at answered) (says answered)))
    (filter (λ (p : Merged × Said). p.0.session == which sid calls) (zip (lines_in calls at answered) (says answered)))))
    test
    ∙ elim (a.taken.sid == sid) as (λ t. map (λ (p : Merged × Said). p.1) (cond t ((merged_of calls at a.taken, a.said)
    ∷ filter (λ (p : Merged × Said). p.0.session == which sid calls) (zip (lines_in calls at answered) (says answered)))
    (filter (λ (p : Merged × Said). p.0.session == which sid calls) (zip (lines_in calls at answered) (says answered))))
    ≡ says (cond t (a ∷ own sid answered) (own sid answered))) [
      | true ↦ ap (λ zs. a.said ∷ zs) rest
      | false ↦ rest
    ]

-- a session has the answers to its own lines more
pub answers-more : (calls : List Call) (at sid : ℕ) (merged : List Merged) (answers : List Said)
    (answered : List Answered) →
    length answers ≡ length merged → AnsweredOpen calls answered →
    answers_to (which sid calls) (merged ++ lines_in calls at answered) (answers ++ says answered)
    ≡ answers_to (which sid calls) merged answers ++ says (own sid answered)
answers-more calls at sid merged answers answered e opens =
    answers-append (which sid calls) merged (lines_in calls at answered) answers (says answered) e
    ∙ ap (λ zs. answers_to (which sid calls) merged answers ++ zs) (answers-own calls at sid answered opens)

count-own : (calls : List Call) (at sid : ℕ) (answered : List Answered) → AnsweredOpen calls answered →
    taken_count (which sid calls) (lines_in calls at answered) ≡ length (own sid answered)
count-own calls at sid [] opens = refl
count-own calls at sid (a ∷ answered) opens =
    let rest : taken_count (which sid calls) (lines_in calls at answered) ≡ length (own sid answered) =
    count-own calls at sid answered (All-tail (λ a. is_open a.taken.sid calls ≡ true) a answered opens) in
    let test : (which a.taken.sid calls == which sid calls) ≡ (a.taken.sid == sid) =
    same-session calls a.taken.sid sid (All-head (λ a. is_open a.taken.sid calls ≡ true) a answered opens) in
    sum_by-cons (λ (m : Merged). cond (m.session == which sid calls) 1 0) (merged_of calls at a.taken)
    (lines_in calls at answered)
    ∙ ap (λ t. cond t 1 0 + taken_count (which sid calls) (lines_in calls at answered)) test
    ∙ elim (a.taken.sid == sid) as (λ t. cond t 1 0 + taken_count (which sid calls) (lines_in calls at answered)
    ≡ length (cond t (a ∷ own sid answered) (own sid answered))) [
      | true ↦ omega (arith, rest)
      | false ↦ omega (arith, rest)
    ]

-- of a session its own lines more were taken
pub count-more : (calls : List Call) (at sid : ℕ) (merged : List Merged) (answered : List Answered) →
    AnsweredOpen calls answered → taken_count (which sid calls) (merged ++ lines_in calls at answered)
    ≡ taken_count (which sid calls) merged + length (own sid answered)
count-more calls at sid merged answered opens =
    sum_by-append (λ (m : Merged). cond (m.session == which sid calls) 1 0) merged (lines_in calls at answered)
    ∙ ap (λ n. taken_count (which sid calls) merged + n) (count-own calls at sid answered opens)

-- its name is that over its own lines
pub name-own : (calls : List Call) (at sid : ℕ) (name : Option (List ℕ)) (answered : List Answered) →
    AnsweredOpen calls answered →
    name_from (which sid calls) name (lines_in calls at answered) ≡ name_over at name (own sid answered)
name-own calls at sid name [] opens = refl
name-own calls at sid name (a ∷ answered) opens =
    let all = All-tail (λ a. is_open a.taken.sid calls ≡ true) a answered opens in
    let test : (which a.taken.sid calls == which sid calls) ≡ (a.taken.sid == sid) =
    same-session calls a.taken.sid sid (All-head (λ a. is_open a.taken.sid calls ≡ true) a answered opens) in
    ap (λ t. name_from (which sid calls) (cond t (renamed (given_name at a.taken.line) name) name)
    (lines_in calls at answered)) test
    ∙ elim (a.taken.sid == sid) as
    (λ t. name_from (which sid calls) (cond t (renamed (given_name at a.taken.line) name) name) (lines_in calls at answered) ≡ name_over at name (cond t (a ∷ own sid answered) (own sid answered))) [
      | true ↦ name-own calls at sid (renamed (given_name at a.taken.line) name) answered all
      | false ↦ name-own calls at sid name answered all
    ]

-- each line has one answer
pub answered-long : (before : List Merged) (table : TableState) (merged : List Merged) (answers : List Said)
    (after : TableState) → AreAnsweredAfter before table merged answers after → length answers ≡ length merged
answered-long before table [] answers after h = ap length h.0
answered-long before table (m ∷ merged) answers after h =
    ap length h.3 ∙ ap suc (answered-long (before ++ m ∷ []) h.2 merged h.1 after h.5)

-- ---- sessions that begin

-- no line is of a session that has not begun
abbrev pub HaveBegun : ℕ → List Merged → Type 0
HaveBegun count merged = All (λ m. m.session ≤ count) merged

pub none-new : (session count : ℕ) (merged : List Merged) (answers : List Said) → count < session →
    HaveBegun count merged → answers_to session merged answers ≡ []
none-new session count [] answers l h = refl
none-new session count (m ∷ merged) [] l h = refl
none-new session count (m ∷ merged) (answer ∷ answers) l h =
    let here : m.session ≤ count = All-head (λ m. m.session ≤ count) m merged h in
    let test : (m.session == session) ≡ false =
    ne_eqb m.session session (λ e. let e : m.session ≡ session = e in omega arith) in
    let rest : answers_to session merged answers ≡ [] =
    none-new session count merged answers l (All-tail (λ m. m.session ≤ count) m merged h) in
    rw test rest

pub count-new : (session count : ℕ) (merged : List Merged) → count < session → HaveBegun count merged →
    taken_count session merged ≡ 0
count-new session count [] l h = refl
count-new session count (m ∷ merged) l h =
    let here : m.session ≤ count = All-head (λ m. m.session ≤ count) m merged h in
    let test : (m.session == session) ≡ false =
    ne_eqb m.session session (λ e. let e : m.session ≡ session = e in omega arith) in
    sum_by-cons (λ (m : Merged). cond (m.session == session) 1 0) m merged
    ∙ ap (λ t. cond t 1 0 + taken_count session merged) test
    ∙ ap (λ n. 0 + n) (count-new session count merged l (All-tail (λ m. m.session ≤ count) m merged h))

pub name-new : (session count : ℕ) (name : Option (List ℕ)) (merged : List Merged) → count < session →
    HaveBegun count merged → name_from session name merged ≡ name
name-new session count name [] l h = refl
name-new session count name (m ∷ merged) l h =
    let here : m.session ≤ count = All-head (λ m. m.session ≤ count) m merged h in
    let test : (m.session == session) ≡ false =
    ne_eqb m.session session (λ e. let e : m.session ≡ session = e in omega arith) in
    ap (λ t. name_from session (cond t (renamed (given_name m.at m.line) name) name) merged) test
    ∙ name-new session count name merged l (All-tail (λ m. m.session ≤ count) m merged h)

-- ---- lines of one session or of none

-- what is added to the merged list is of an open session, or nothing of it is of this session
pub record AddsNone (session : ℕ) (lines : List Merged) (more : List Said) : Type 0 where
  pub text : answers_to session lines more ≡ []
  pub count : taken_count session lines ≡ 0

pub record HasNumber (calls : List Call) (session : ℕ) : Type 0 where
  pub sid : ℕ
  pub opens : is_open sid calls ≡ true
  pub is : which sid calls ≡ session

pub own-or-none : (calls : List Call) (at session : ℕ) (answered : List Answered) → AnsweredOpen calls answered →
    HasNumber calls session ⊎ AddsNone session (lines_in calls at answered) (says answered)
own-or-none calls at session [] opens = inr (record { text = refl; count = refl })
own-or-none calls at session (a ∷ answered) opens =
    elim (cases_Bool (which a.taken.sid calls == session)) [
      | inl e ↦ inl (record {
        sid = a.taken.sid;
        opens = All-head (λ a. is_open a.taken.sid calls ≡ true) a answered opens;
        is = eqb-true (which a.taken.sid calls) session e;
      })
      | inr e ↦ elim (own-or-none calls at session answered
          (All-tail (λ a. is_open a.taken.sid calls ≡ true) a answered opens)) [
            | inl h ↦ inl h
            | inr h ↦ inr (record {
              text = rw e h.text;
              count = sum_by-cons (λ (m : Merged). cond (m.session == session) 1 0) (merged_of calls at a.taken)
                  (lines_in calls at answered)
                  ∙ ap (λ t. cond t 1 0 + taken_count session (lines_in calls at answered)) e
                  ∙ ap (λ n. 0 + n) h.count;
            })
          ]
    ]

pub answers-none : (session : ℕ) (merged lines : List Merged) (answers more : List Said) →
    length answers ≡ length merged → AddsNone session lines more →
    answers_to session (merged ++ lines) (answers ++ more) ≡ answers_to session merged answers
answers-none session merged lines answers more e none =
    answers-append session merged lines answers more e ∙ ap (λ zs. answers_to session merged answers ++ zs) none.text
    ∙ append-nil (answers_to session merged answers)

pub count-none : (session : ℕ) (merged lines : List Merged) (more : List Said) → AddsNone session lines more →
    taken_count session (merged ++ lines) ≡ taken_count session merged
count-none session merged lines more none =
    sum_by-append (λ (m : Merged). cond (m.session == session) 1 0) merged lines
    ∙ ap (λ n. taken_count session merged + n) none.count ∙ omega arith
