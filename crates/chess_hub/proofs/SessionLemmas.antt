-- What holds of one session after calls, and how each kind of call keeps it.
use Rattle.std.proofs.Common.{◌≡◌, ℕ, suc, ◌+◌, ◌≤◌, true, false, List, [], ◌∷◌, ◌++◌, length, drop, refl, ap, sym, subst, ◌∙◌, arith, append_assoc, append-nil, Option, Some, None}
use Rattle.std.specs.Prelude.{Bool, ◌&&◌, ◌||◌, not, cond}
use Rattle.std.proofs.lemmas.Bool.{and_parts}
use Rattle.std.proofs.lemmas.List.{nil_from_length}
use Rattle.text_lines.specs.Lines.{lines_of, has_long_line}
use Rattle.text_lines.specs.Heard.{Heard, heard_more}
use Rattle.chess_hub.specs.Session.{Said, SessionState, fresh, farewell, is_none_waiting, is_done, farewell_due, due, after_one, given_one, first_due}
use Rattle.chess_hub.specs.Delivery.{Answered, HasAnswered, DropsLines, name_over}
use Rattle.chess_hub.specs.Sessions.{Merged, taken_count, name_from, answers_to}
use Rattle.chess_hub.proofs.CallLemmas.{View}
use Rattle.chess_hub.proofs.HearingLemmas.{IsHearing, hearing-none, hearing-waits, hearing-more, hearing-drops, hearing-count}
use Rattle.chess_hub.proofs.TextLemmas.{says, HaveBegun, none-new, count-new, name-new}

-- How what was given and what is to be given stand to the answers: whether the farewell was given, and whether it may
-- be.
abbrev pub IsTold : Bool → Bool → List Said → List Said → List Said → Type 0
IsTold false is_done given answers all = given ++ answers ≡ all
IsTold true is_done given answers all = (given ≡ all ++ farewell ∷ []) × (answers ≡ []) × (is_done ≡ true)

-- the state of a session that is open
pub record IsSession (v : View) (merged : List Merged) (answers : List Said) (s : SessionState) : Type 0 where
  pub opens : v.is_open ≡ true
  pub name : s.name ≡ name_from v.session None merged
  pub hearing : IsHearing v.input (taken_count v.session merged) s.heard
  pub told : IsTold s.has_left (is_done s.heard) v.given s.answers (answers_to v.session merged answers)

abbrev pub text_of : View → List Merged → List Said → List Said
text_of v merged answers =
    answers_to v.session merged answers
    ++ cond (has_long_line v.input && is_none_waiting (drop (taken_count v.session merged) (lines_of v.input)))
    (farewell ∷ []) []

-- the same of the session of a number, if it is open
abbrev pub IsOne : View → List Merged → List Said → Option SessionState → Type 0
IsOne v merged answers None = v.is_open ≡ false
IsOne v merged answers (Some s) = IsSession v merged answers s

-- ---- its text

text-false : (done : Bool) (given answers all : List Said) → given ++ answers ≡ all →
    given ++ (answers ++ cond (done && not false) (farewell ∷ []) []) ≡ all ++ cond done (farewell ∷ []) []
text-false true given answers all h =
    sym (append_assoc given answers (farewell ∷ [])) ∙ ap (λ xs. xs ++ farewell ∷ []) h
text-false false given answers all h =
    ap (λ xs. given ++ xs) (append-nil answers) ∙ h ∙ sym (append-nil all)

told-text : (left done : Bool) (given answers all : List Said) → IsTold left done given answers all →
    given ++ (answers ++ cond (done && not left) (farewell ∷ []) []) ≡ all ++ cond done (farewell ∷ []) []
told-text false done given answers all h = text-false done given answers all h
told-text true done given answers all h =
    rw (h.2, h.1) (append-nil given ∙ h.0)

done-same : (v : View) (merged : List Merged) (h : Heard) → IsHearing v.input (taken_count v.session merged) h →
    is_done h ≡ (has_long_line v.input && is_none_waiting (drop (taken_count v.session merged) (lines_of v.input)))
done-same v merged h is =
    ap (λ t. t && is_none_waiting (lines_of h.bytes)) is.long
    ∙ ap (λ ls. has_long_line v.input && is_none_waiting ls) (hearing-waits v.input (taken_count v.session merged) h is)

pub session-text : (v : View) (merged : List Merged) (answers : List Said) (s : SessionState) →
    IsSession v merged answers s → v.given ++ due s ≡ text_of v merged answers
session-text v merged answers s is =
    told-text s.has_left (is_done s.heard) v.given s.answers (answers_to v.session merged answers) is.told
    ∙ ap (λ t. answers_to v.session merged answers ++ cond t (farewell ∷ []) []) (done-same v merged s.heard is.hearing)

-- ---- it begins

pub session-begins : (count : ℕ) (merged : List Merged) (answers : List Said) → HaveBegun count merged →
    IsSession (record { is_open = true; session = suc count; input = []; given = [] }) merged answers fresh
session-begins count merged answers begun = record {
  opens = refl;
  name = sym (name-new (suc count) count None merged (omega arith) begun);
  hearing = subst (λ n. IsHearing [] n fresh.heard) (sym (count-new (suc count) count merged (omega arith) begun))
      hearing-none;
  told = sym (none-new (suc count) count merged answers (omega arith) begun);
}

-- ---- it sends bytes

fed-told : (left done now : Bool) (given answers all : List Said) → (done ≡ true → ⊥) →
    IsTold left done given answers all → IsTold left now given answers all
fed-told false done now given answers all not_done h = h
fed-told true done now given answers all not_done h = absurd (not_done h.2)

pub session-fed : (v : View) (merged : List Merged) (answers : List Said) (s : SessionState) (piece : List ℕ) →
    IsSession v merged answers s → s.heard.is_long ≡ false →
    IsSession (record v { input = v.input ++ piece }) merged answers (record s { heard = heard_more s.heard piece })
session-fed v merged answers s piece is short = record {
  opens = is.opens;
  name = is.name;
  hearing = hearing-more v.input piece (taken_count v.session merged) s.heard is.hearing short;
  told = fed-told s.has_left (is_done s.heard) (is_done (heard_more s.heard piece)) v.given s.answers
      (answers_to v.session merged answers)
      (λ e. (let long : s.heard.is_long ≡ true =
      (and_parts s.heard.is_long (is_none_waiting (lines_of s.heard.bytes)) e).0 in cc)) is.told;
}

-- ---- it is given an answer

farewell-told : (left done : Bool) (given answers all : List Said) (answer : Said) → answers ≡ [] →
    IsTold left done given answers all → first_due (cond (done && not left) (farewell ∷ []) []) ≡ Some answer →
    IsTold (left || done) done (given ++ answer ∷ []) answers all
farewell-told false false given answers all answer none h first = absurd (let bad : None ≡ Some answer = first in cc)
farewell-told false true given answers all answer none h first =
    let is : farewell ≡ answer = (let e : Some farewell ≡ Some answer = first in cc) in
    let whole : given ≡ all = sym (append-nil given) ∙ ap (λ xs. given ++ xs) (sym none) ∙ h in
    (ap (λ xs. xs ++ answer ∷ []) whole ∙ ap (λ a. all ++ a ∷ []) (sym is), none, refl)
farewell-told true false given answers all answer none h first = absurd (let bad : None ≡ Some answer = first in cc)
farewell-told true true given answers all answer none h first = absurd (let bad : None ≡ Some answer = first in cc)

first-told : (left done : Bool) (given answers rest all : List Said) (answer : Said) → answers ≡ answer ∷ rest →
    IsTold left done given answers all → IsTold left done (given ++ answer ∷ []) rest all
first-told false done given answers rest all answer is h =
    append_assoc given (answer ∷ []) rest ∙ ap (λ xs. given ++ xs) (sym is) ∙ h
first-told true done given answers rest all answer is h =
    absurd (let bad : [] ≡ answer ∷ rest = sym h.1 ∙ is in cc)

-- how the session stands after that
pub record IsAfterOne (s new : SessionState) (given all : List Said) : Type 0 where
  pub name : new.name ≡ s.name
  pub heard : new.heard ≡ s.heard
  pub told : IsTold new.has_left (is_done s.heard) given new.answers all

after-given : (s : SessionState) (given all : List Said) (answer : Said) (xs : List Said) → s.answers ≡ xs →
    IsTold s.has_left (is_done s.heard) given s.answers all → first_due (xs ++ farewell_due s) ≡ Some answer →
    IsAfterOne s (after_one s xs) (given ++ answer ∷ []) all
after-given s given all answer [] is h first = record {
  name = refl;
  heard = refl;
  told = farewell-told s.has_left (is_done s.heard) given s.answers all answer is h first;
}
after-given s given all answer (a ∷ rest) is h first =
    let same : a ≡ answer = (let e : Some a ≡ Some answer = first in cc) in
    record {
      name = refl;
      heard = refl;
      told = first-told s.has_left (is_done s.heard) given s.answers rest all answer
          (is ∙ ap (λ x. x ∷ rest) same) h;
    }

pub session-given : (v : View) (merged : List Merged) (answers : List Said) (s : SessionState) (answer : Said) →
    IsSession v merged answers s → first_due (due s) ≡ Some answer →
    IsSession (record v { given = v.given ++ answer ∷ [] }) merged answers (given_one s)
session-given v merged answers s answer is first =
    let after : IsAfterOne s (given_one s) (v.given ++ answer ∷ []) (answers_to v.session merged answers) =
    after-given s v.given (answers_to v.session merged answers) answer s.answers refl is.told first in
    record {
      opens = is.opens;
      name = after.name ∙ is.name;
      hearing = subst (IsHearing v.input (taken_count v.session merged)) (sym after.heard) is.hearing;
      told = subst (λ h. IsTold (given_one s).has_left (is_done h) (v.given ++ answer ∷ []) (given_one s).answers
          (answers_to v.session merged answers)) (sym after.heard) after.told;
    }

-- ---- its lines are taken and answered

-- what a turn with these lines of a session adds to the merged list and its answers
pub record Adds (at session : ℕ) (lines : List Answered) (merged : List Merged) (answers : List Said)
    (more : List Merged) (others : List Said) : Type 0 where
  pub count : taken_count session more ≡ taken_count session merged + length lines
  pub text : answers_to session more others ≡ answers_to session merged answers ++ says lines
  pub name : name_from session None more ≡ name_over at (name_from session None merged) lines

none-waits : (lines : List (List ℕ)) → is_none_waiting lines ≡ true → length lines ≡ 0
none-waits [] e = refl
none-waits (line ∷ lines) e = absurd (let bad : false ≡ true = e in cc)

none-taken : (lines : List Answered) (h : Heard) → length lines ≤ length (lines_of h.bytes) → is_done h ≡ true →
    lines ≡ []
none-taken lines h few done =
    let none : length (lines_of h.bytes) ≡ 0 =
    none-waits (lines_of h.bytes) ((and_parts h.is_long (is_none_waiting (lines_of h.bytes)) done).1) in
    nil_from_length lines (omega arith)

turned-told : (left : Bool) (old new : Heard) (lines : List Answered) (given before after all more : List Said) →
    length lines ≤ length (lines_of old.bytes) → DropsLines (length lines) old new → after ≡ before ++ says lines →
    more ≡ all ++ says lines → IsTold left (is_done old) given before all → IsTold left (is_done new) given after more
turned-told false old new lines given before after all more few drops is adds h =
    ap (λ xs. given ++ xs) is ∙ sym (append_assoc given before (says lines)) ∙ ap (λ xs. xs ++ says lines) h ∙ sym adds
turned-told true old new lines given before after all more few drops is adds h =
    let none : lines ≡ [] = none-taken lines old few h.2 in
    let same : new ≡ old = subst (λ (ls : List Answered). DropsLines (length ls) old new) none drops in
    let whole : more ≡ all = adds ∙ ap (λ ls. all ++ says ls) none ∙ append-nil all in (
      h.0 ∙ ap (λ xs. xs ++ farewell ∷ []) (sym whole),
      is ∙ ap (λ ls. before ++ says ls) none ∙ append-nil before ∙ h.1,
      ap is_done same ∙ h.2,
    )

pub session-turned : (at : ℕ) (v : View) (lines : List Answered) (merged more : List Merged)
    (answers others : List Said) (s t : SessionState) → IsSession v merged answers s → Adds at v.session lines merged answers more others →
    length lines ≤ length (lines_of s.heard.bytes) → HasAnswered at lines s t → IsSession v more others t
session-turned at v lines merged more answers others s t is adds few has =
    let count = taken_count v.session merged in
    let all : length (lines_of v.input) ≡ count + length (lines_of s.heard.bytes) =
    hearing-count v.input count s.heard is.hearing in
    let within : count + length lines ≤ length (lines_of v.input) = omega arith in
    record {
      opens = is.opens;
      name = has.name ∙ ap (λ name. name_over at name lines) is.name ∙ sym adds.name;
      hearing = subst (λ n. IsHearing v.input n t.heard) (sym adds.count)
          (hearing-drops (length lines) v.input count s.heard t.heard is.hearing within has.heard);
      told = subst (λ left. IsTold left (is_done t.heard) v.given t.answers (answers_to v.session more others))
          (sym has.left) (turned-told s.has_left s.heard t.heard lines v.given s.answers t.answers
          (answers_to v.session merged answers) (answers_to v.session more others) few has.heard has.answers adds.text is.told);
    }
