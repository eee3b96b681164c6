-- What waits in front is told.
use Rattle.std.proofs.Common.{◌≡◌, ◌<◌, ◌≤◌, ◌+◌, ◌∙◌, ◌||◌, ℕ, Bool, cond, true, false, List, [], ◌∷◌, not, length, get_or, refl, ap, sym, subst, arith}
use Rattle.std.specs.List.{AllZip, remove}
use Rattle.std.proofs.lemmas.List.Sums.{sum_by-cons}
use Rattle.std.specs.String.{string_bytes}
use Rattle.std.proofs.lemmas.Bool.{false≢true, and_parts}
use Rattle.std.proofs.lemmas.Slice.Eq.{bytes_eq-Decides}
use Rattle.lobby_desk.specs.declared.telling.Message.{Message}
use Rattle.lobby_talk.specs.Making.{IsOfLine}
use Rattle.lobby_talk.specs.Counting.{is_for}
use Rattle.lobby_talk.specs.declared.kept_answer.KeptAnswer.{KeptAnswer}
use Rattle.websocket.specs.Content.{text as Text}
use Rattle.lobby_web.specs.declared.browser.Browser.{Browser}
use Rattle.lobby_web.specs.Browsing.{SaysTo}
use Rattle.lobby_guests.specs.declared.guest.Guest.{Guest}
use Rattle.lobby_guests.specs.declared.waiting.Waiting.{Waiting}
use Rattle.lobby_guests.specs.Waiting.{is_line, must_wait, IsToldBy, AtLine, has_whole}
use Rattle.lobby_guests.specs.Guests.{IsSameVisit, IsStill, IsLeftAlone, NotesLogin, IsPassedOn, IsGivenIf, IsTold, is_first, lines_in, IsCaughtUp, IsSaid, is_cut}

-- the first, and the others
pub first_there : {X : Type 0} (xs : List X) (d : X) → 0 < length xs → d ≡ get_or xs 0 d → xs ≡ d ∷ remove xs 0
first_there [] d some is = absurd (omega (arith, some))
first_there (x ∷ xs) d some is = ap (λ y. y ∷ xs) (sym is)

pub whole_there : (waits : List Waiting) → has_whole waits ≡ true → 0 < length waits
whole_there [] is = absurd (false≢true is)
whole_there (one ∷ ones) is = omega arith

pub answer_there : (answer : KeptAnswer) (waits : List Waiting) → is_first answer waits ≡ true → 0 < length waits
answer_there answer [] is = absurd (false≢true is)
answer_there answer (one ∷ ones) is = omega arith

pub not_line : (b : Bool) → not b ≡ true → b ≡ false
not_line true is = absurd (false≢true is)
not_line false is = refl

a_line : (b : Bool) → not b ≡ false → b ≡ true
a_line true is = refl
a_line false is = absurd (false≢true (sym is))

pub at_line : (waits : List Waiting) → has_whole waits ≡ false → AtLine waits
at_line [] is = tt
at_line (one ∷ ones) is = a_line (is_line one.kind) is

by_text : (b : Bool) (text told : List ℕ) → b ≡ false → told ≡ text → IsToldBy b text told
by_text true text told is same = absurd (false≢true (sym is))
by_text false text told is same = same

by_answer : (b : Bool) (text told pgn : List ℕ) → b ≡ true → text ≡ pgn → ∥ IsOfLine pgn told ∥₁ → IsToldBy b text told
by_answer true text told pgn is same made = subst (λ (l : List ℕ). ∥ IsOfLine l told ∥₁) (sym same) made
by_answer false text told pgn is same made = absurd (false≢true is)

-- ---- of what is told, one is an answer

one_most : (b : Bool) → cond b 1 0 ≤ 1
one_most true = omega arith
one_most false = omega arith

one_none : (b : Bool) → b ≡ false → cond b 1 0 ≤ 0
one_none true is = absurd (false≢true (sym is))
one_none false is = omega arith

pub one_line : (one : Waiting) → lines_in (one ∷ []) ≤ 1
one_line one =
    let is : lines_in (one ∷ []) ≡ cond (is_line one.kind) 1 0 + 0 =
    sum_by-cons (λ (w : Waiting). cond (is_line w.kind) 1 0) one [] in
    omega (arith, is, one_most (is_line one.kind))

pub one_whole : (one : Waiting) (front : List Waiting) → is_line one.kind ≡ false → lines_in front ≤ 1 →
    lines_in (one ∷ front) ≤ 1
one_whole one front whole few =
    let is : lines_in (one ∷ front) ≡ cond (is_line one.kind) 1 0 + lines_in front =
    sum_by-cons (λ (w : Waiting). cond (is_line w.kind) 1 0) one front in
    omega (arith, is, one_none (is_line one.kind) whole, few)

-- how the first is told, whole or by an answer
pub told_whole : (waits : List Waiting) (one : Waiting) (ones : List Waiting) (told : List ℕ) → waits ≡ one ∷ ones →
    has_whole waits ≡ true → told ≡ string_bytes one.text → IsToldBy (is_line one.kind) (string_bytes one.text) told
told_whole waits one ones told is whole same =
    by_text (is_line one.kind) (string_bytes one.text) told
    (not_line (is_line one.kind) (ap has_whole (sym is) ∙ whole)) same

pub told_answer : (waits : List Waiting) (one : Waiting) (ones : List Waiting) (told : List ℕ) (answer : KeptAnswer) → waits ≡ one ∷ ones →
    is_first answer waits ≡ true → told ≡ string_bytes answer.answer → IsToldBy (is_line one.kind) (string_bytes one.text) told
told_answer waits one ones told answer is first same =
    let here = and_parts (is_line one.kind) _ (ap (is_first answer) (sym is) ∙ first) in
    by_answer (is_line one.kind) (string_bytes one.text) told (string_bytes answer.pgn) here.0
    ((bytes_eq-Decides (string_bytes one.text) (string_bytes answer.pgn)).0 here.1)
    (subst (λ (l : List ℕ). ∥ IsOfLine (string_bytes answer.pgn) l ∥₁) (sym same) answer.made)

module _ {S : Type 0} where
  same_visit : (guest : Guest S) → IsSameVisit guest guest
  same_visit guest = record { key = refl; origin = refl; since = refl; heard = refl }

  -- nothing of a browser changes
  pub same_guest : (guest : Guest S) → IsLeftAlone guest guest
  same_guest guest = record {
    before = record {
      still = record { number = refl; stream = refl; browser = refl; waits = refl; visit = same_visit guest };
      paid = refl;
      logins = refl;
      more = refl;
    };
    lost = refl;
  }

  pub caught_none : (at : ℕ) (guest : Guest S) → IsCaughtUp at guest guest
  caught_none at guest = record { front = []; are = refl; once = omega arith; at_line = λ so. so }

  pub all_caught_none : (at : ℕ) (guests : List (Guest S)) → AllZip (IsCaughtUp at) guests guests
  all_caught_none at [] = tt
  all_caught_none at (guest ∷ guests) = (caught_none at guest, all_caught_none at guests)

  pub visit_twice : (old mid new : Guest S) → IsSameVisit old mid → IsSameVisit mid new → IsSameVisit old new
  visit_twice old mid new one next = record {
    key = next.key ∙ one.key;
    origin = next.origin ∙ one.origin;
    since = next.since ∙ one.since;
    heard = next.heard ∙ one.heard;
  }

  -- a text is said to a browser of which nothing else changed before but what waits
  pub said_from : (text : List ℕ) (old mid new : Guest S) → mid.number ≡ old.number → mid.stream ≡ old.stream →
      mid.browser ≡ old.browser → IsSameVisit old mid → mid.logins_until ≡ old.logins_until → mid.is_lost ≡ old.is_lost →
      mid.has_more ≡ old.has_more → IsSaid text mid new → IsSaid text old new
  said_from text old mid new number stream browser visit logins lost more said = record {
    number = said.number ∙ number;
    stream = said.stream ∙ stream;
    visit = visit_twice old mid new visit said.visit;
    logins = said.logins ∙ logins;
    more = said.more ∙ more;
    answer = said.answer;
    says = subst (λ (b : Browser). SaysTo (Text text) b.stage new.browser.stage said.answer) browser said.says;
    lost = said.lost ∙ ap (λ (b : Bool). is_cut said.answer || b) lost;
  }

  -- a message that is for it is passed on, where it was noted whether that refuses a login
  pub told_on : (at : ℕ) (made : Message) (old mid new : Guest S) → NotesLogin at (string_bytes made.text) old mid →
      is_for old.number made.to.items ≡ true → (waits : Bool) → must_wait mid.waits.items made.kind ≡ waits →
      IsPassedOn waits at made mid new → new.number ≡ mid.number → IsTold at made old new
  told_on at made old mid new notes for_it waits is passed number = record {
    number = number ∙ notes.still.number;
    given = subst (λ (b : Bool). IsGivenIf b at made old new) (sym for_it) (record {
      noted = mid;
      notes = notes;
      passed = subst (λ (b : Bool). IsPassedOn b at made mid new)
          (sym (ap (λ v. must_wait v.items made.kind) (sym notes.still.waits) ∙ is)) passed;
    });
  }
