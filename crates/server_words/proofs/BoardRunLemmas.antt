-- Texts that inputs call for, and how the loop over lines ends.
use Rattle.std.proofs.Common.{◌≡◌, ℕ, Bool, true, false, List, [], ◌∷◌, ◌++◌, sym, refl, ap, ◌∙◌, subst, append_assoc, append-nil, arith, length-append, Option, None, Some, IfSome, Result, Err}
use Rattle.std.specs.Io.KnownBytes.{Appends, Consumes}
use Rattle.text_lines.specs.Lines.{lines_of, has_long_line}
use Rattle.chess_board.specs.Position.{Position, IsValid}
use Rattle.chess_board.specs.Initial.{initial}
use Rattle.text_lines.specs.Texts as loop
use Rattle.text_lines.specs.declared.answerer.LoopFault.{LoopFault}
use Rattle.server_words.specs.BoardAnswer.{IsAnswer}
use Rattle.server_words.specs.BoardRun.{IsBoardText, AppendsText, AppendsFront, AnswersTaken, AnswersInPart}
use Rattle.server_words.proofs.BoardAnswerLemmas.{answers, valid_after, one_answer}
use Rattle.chess_board.proofs.Deciding.{IsValid-initial}
use Rattle.server_words.proofs.BoardCuts.{BringsLines, brings}

abbrev IsRun : Position → List (List ℕ) → List ℕ → Position → Type 0
IsRun p lines text q = loop.IsRun IsAnswer p lines text q

-- ---- a run of lines, by totality of the answers

record HasRun (start : Position) (lines : List (List ℕ)) : Type 0 where
  text : List ℕ
  end : Position
  is : IsRun start lines text end

runs : (p : Position) (lines : List (List ℕ)) → IsValid p → HasRun p lines
runs p [] valid = record { text = []; end = p; is = (refl, refl) }
runs p (line ∷ lines) valid =
    let first = answers p line valid in
    let rest = runs first.after lines (valid_after p line first.answer first.after valid first.is) in
    record {
      text = first.answer ++ rest.text;
      end = rest.end;
      is = (first.answer, first.after, rest.text, first.is, rest.is, refl);
    }

run-valid : (p : Position) (lines : List (List ℕ)) (text : List ℕ) (q : Position) → IsValid p → IsRun p lines text q →
    IsValid q
run-valid p [] text q valid (none, same) = subst IsValid (sym same) valid
run-valid p (line ∷ lines) text q valid (a, between, more, is, run, whole) =
    run-valid between lines more q (valid_after p line a between valid is) run

run-run : (p : Position) (lines : List (List ℕ)) (text : List ℕ) (q : Position) (left : List (List ℕ)) (more : List ℕ)
    (r : Position) → IsRun p lines text q → IsRun q left more r → IsRun p (lines ++ left) (text ++ more) r
run-run p [] text q left more r (none, same) next =
    subst (λ (x : List ℕ). IsRun p left (x ++ more) r) (sym none)
    (subst (λ (x : Position). IsRun x left more r) same next)
run-run p (line ∷ lines) text q left more r (a, between, rest, is, run, whole) next = (
  a,
  between,
  rest ++ more,
  is,
  run-run between lines rest q left more r run next,
  ap (λ (x : List ℕ). x ++ more) whole ∙ append_assoc a rest more,
)

-- and one alone
one_run : (p : Position) (lines : List (List ℕ)) (s : List ℕ) (q : Position) (t : List ℕ) (r : Position) →
    IsRun p lines s q → IsRun p lines t r → s ≡ t
one_run p [] s q t r h k = h.0 ∙ sym k.0
one_run p (line ∷ lines) s q t r (a, after, more, is, run, whole) (a', after', more', is', run', whole') =
    let same = one_answer p line a after a' after' is is' in
    let rest = one_run after' lines more q more' r (subst (λ (x : Position). IsRun x lines more q) same.1 run) run' in
    whole ∙ ap (λ (x : List ℕ). x ++ more) same.0 ∙ ap (λ (x : List ℕ). a' ++ x) rest ∙ sym whole'

pub one_text : (input s t : List ℕ) → IsBoardText input s → IsBoardText input t → s ≡ t
one_text input s t h k =
    h.is.whole ∙ ap (λ (x : List ℕ). x ++ loop.farewell (has_long_line input))
    (one_run initial (lines_of input) h.is.answers h.end k.is.answers k.end h.is.run k.is.run) ∙ sym k.is.whole

-- ---- the text of more bytes

-- a text of which this is the front
record Begins (input front : List ℕ) : Type 0 where
  rest : List ℕ
  is : IsBoardText input (front ++ rest)

-- Some lines of the input were answered, and no farewell was said.
begins-done : (input : List ℕ) (done left : List (List ℕ)) (said : List ℕ) (mid : Position) →
    lines_of input ≡ done ++ left → IsRun initial done said mid → Begins input said
begins-done input done left said mid lines run =
    let rest = runs mid left (run-valid initial done said mid IsValid-initial run) in
    record {
      rest = rest.text ++ loop.farewell (has_long_line input);
      is = record {
        end = rest.end;
        is = record {
          answers = said ++ rest.text;
          run = subst (λ (x : List (List ℕ)). IsRun initial x (said ++ rest.text) rest.end) (sym lines)
              (run-run initial done said mid left rest.text rest.end run rest.is);
          whole = sym (append_assoc said rest.text (loop.farewell (has_long_line input)));
        };
      };
    }

-- All were, and one is too long.
begins-long : (input : List ℕ) (done : List (List ℕ)) (said : List ℕ) (mid : Position) → lines_of input ≡ done →
    has_long_line input ≡ true → IsRun initial done said mid → Begins input (said ++ loop.farewell true)
begins-long input done said mid lines long run = record {
  rest = [];
  is = record {
    end = mid;
    is = record {
      answers = said;
      run = subst (λ (x : List (List ℕ)). IsRun initial x said mid) (sym lines) run;
      whole = append-nil (said ++ loop.farewell true) ∙ ap (λ (b : Bool). said ++ loop.farewell b) (sym long);
    };
  };
}

-- lines of what was taken, where more bytes follow
lines-then : (taken more : List ℕ) (done left : List (List ℕ)) → lines_of taken ≡ done ++ left →
    (b : BringsLines taken more) → lines_of (taken ++ more) ≡ done ++ (left ++ b.left)
lines-then taken more done left lines b =
    b.lines ∙ ap (λ (x : List (List ℕ)). x ++ b.left) lines ∙ append_assoc done left b.left

-- The lines of what was taken that were answered, with the farewell where it was said, whatever bytes follow.
begins-part : (taken more : List ℕ) (done left : List (List ℕ)) (said : List ℕ) (mid : Position) (is_long : Bool) →
    lines_of taken ≡ done ++ left → IsRun initial done said mid →
    (is_long ≡ true → (left ≡ []) × (has_long_line taken ≡ true)) →
    Begins (taken ++ more) (said ++ loop.farewell is_long)
begins-part taken more done left said mid false lines run long =
    let b = brings taken more in
    subst (Begins (taken ++ more)) (sym (append-nil said))
    (begins-done (taken ++ more) done (left ++ b.left) said mid (lines-then taken more done left lines b) run)
begins-part taken more done left said mid true lines run long =
    let b = brings taken more in
    let (none, is) = long refl in
    begins-long (taken ++ more) done said mid
    (lines-then taken more done left lines b ∙ ap (λ (x : List (List ℕ)). done ++ (x ++ b.left)) none
    ∙ ap (λ (x : List (List ℕ)). done ++ x) (b.none is) ∙ append-nil done)
    (b.long is) run

-- a front of what a known input calls for was written
front-of : (before after old new : Option (List ℕ)) (taken front : List ℕ) → Consumes before after taken →
    Appends old new front → ((more : List ℕ) → Begins (taken ++ more) front) → IfSome before (AppendsFront old new)
front-of None after old new taken front c a begins = tt
front-of (Some x) None old new taken front c a begins = absurd c
front-of (Some x) (Some y) old new taken front c a begins =
    let h = begins y in
    (front, h.rest, subst (λ (input : List ℕ). IsBoardText input (front ++ h.rest)) (sym c) h.is, a)

text-of : (given old new : Option (List ℕ)) (end : Position) → IfSome given (λ input. (text : List ℕ)
    × loop.IsText IsAnswer initial input text end × Appends old new text) → IfSome given (AppendsText old new)
text-of None old new end h = tt
text-of (Some input) old new end (text, is, appended) = (text, record { end = end; is = is }, appended)

-- the same of a loop that began at that position
pub text-from : (given old new : Option (List ℕ)) (start end : Position) → start ≡ initial →
    IfSome given (λ input. (text : List ℕ) × loop.IsText IsAnswer start input text end × Appends old new text) →
    IfSome given (AppendsText old new)
text-from given old new start end first h = text-of given old new end
    (subst (λ (p : Position). IfSome given (λ input. (text : List ℕ) × loop.IsText IsAnswer p input text end
    × Appends old new text)) first h)

-- ---- how the loop ends

-- at this fault, from the initial position on
pub at-fault : {F : Type 0} (Breaks : Position → List ℕ → F → Position → Type 0)
    (result : Result (Unit {0}) (LoopFault F)) (fault kind : LoopFault F) (before after old new : Option (List ℕ))
    (start end : Position) → result ≡ Err fault → fault ≡ kind → start ≡ initial →
    loop.Ended IsAnswer Breaks result (loop.streams before old) (loop.streams after new) start end →
    loop.Ended IsAnswer Breaks (Err kind) (loop.streams before old) (loop.streams after new) initial end
at-fault {F = F} Breaks result fault kind before after old new start end is that first h =
    subst (λ (x : Position). loop.Ended IsAnswer Breaks (Err kind) (loop.streams before old) (loop.streams after new) x end) first
    (subst (λ (r : Result (Unit {0}) (LoopFault F)). loop.Ended IsAnswer Breaks r (loop.streams before old) (loop.streams after new) start end)
    (is ∙ ap (λ (f : LoopFault F). Err f) that) h)

module _ (before after old new : Option (List ℕ)) (end : Position) where
  -- all lines were answered

  all-begins : (h : loop.AnswersAll IsAnswer (loop.streams before old) (loop.streams after new) initial end) (more : List ℕ) →
      Begins (h.taken ++ more) h.text
  all-begins h more =
      subst (Begins (h.taken ++ more)) (sym h.is.whole)
      (begins-part h.taken more (lines_of h.taken) [] h.is.answers end (has_long_line h.taken)
      (sym (append-nil (lines_of h.taken))) h.is.run (λ long. (refl, long)))

  pub front-all : loop.AnswersAll IsAnswer (loop.streams before old) (loop.streams after new) initial end → IfSome before (AppendsFront old new)
  front-all h = front-of before after old new h.taken h.text h.consumed h.appended (λ more. all-begins h more)

  -- a line was too long

  pub taken-long : loop.AnswersLong IsAnswer (loop.streams before old) (loop.streams after new) initial end → AnswersTaken before after old new
  taken-long h = (
    h.taken,
    h.consumed,
    (
      h.text,
      record {
        end = end;
        is = subst (λ (input : List ℕ). loop.IsText IsAnswer initial input h.text end) (append-nil h.taken) (h.is []);
      },
      h.appended,
    ),
  )

  -- a write failed

  module _ {F : Type 0} (Breaks : Position → List ℕ → F → Position → Type 0)
      (h : loop.AnswersInPart IsAnswer Breaks (loop.streams before old) (loop.streams after new) initial end) where
    part-begins : (more : List ℕ) → Begins (h.taken ++ more) (h.front ++ h.lost)
    part-begins more = subst (Begins (h.taken ++ more)) h.text
        (begins-part h.taken more h.done h.left h.answers h.mid h.is_long h.lines h.run h.long)

    -- what is lost, and what it calls for besides
    front-begins : (more : List ℕ) → Begins (h.taken ++ more) h.front
    front-begins more =
        let b = part-begins more in
        record {
          rest = h.lost ++ b.rest;
          is = subst (IsBoardText (h.taken ++ more)) (append_assoc h.front h.lost b.rest) b.is;
        }

    pub front-part : IfSome before (AppendsFront old new)
    front-part = front-of before after old new h.taken h.front h.consumed h.appended front-begins

    pub taken-part : AnswersInPart before after old new
    taken-part =
        let b = part-begins [] in (
          h.taken,
          h.front,
          h.lost ++ b.rest,
          h.consumed,
          subst (λ (input : List ℕ). IsBoardText input (h.front ++ (h.lost ++ b.rest))) (append-nil h.taken)
              (subst (IsBoardText (h.taken ++ [])) (append_assoc h.front h.lost b.rest) b.is),
          (let some = h.some in omega (arith, some, length-append h.lost b.rest)),
          h.appended,
        )
