-- How a loop ends.
use Rattle.std.proofs.Common.{◌≡◌, ℕ, true, false, List, [], ◌++◌, sym, refl, ap, ◌∙◌, subst, append_assoc, append-nil, Option, None, Some, IfSome, Result, Ok, Err, inl, inr}
use Rattle.std.specs.Prelude.{◌⊎◌, Bool}
use Rattle.std.proofs.KnownBytes.{Consumes-nil, Consumes-trans, Consumes-kept}
use Rattle.std.specs.Io.BufRead.{strip_last}
use Rattle.std.specs.Io.KnownBytes.{Appends, Consumes, Keeps, IsAtEnd}
use Rattle.text_lines.specs.Lines.{IsUnfinished, lines_of, has_long_line}
use Rattle.text_lines.proofs.LineLemmas.{lines-feed, long-rest}
use Rattle.text_lines.proofs.Wholes.{lines-rest_after, unfinished-none}
use Rattle.text_lines.specs.Texts.{IsRun, IsText, farewell, AnswersAll, AnswersLong, AnswersUntil, FindsNone, AnswersInPart, Ended, streams}
use Rattle.std.specs.Prelude.{OnOk, IsErrOf}
use Rattle.text_lines.specs.declared.answerer.LoopFault.{LoopFault}
use Rattle.text_lines.specs.declared.answerer.LoopFault.TheVariants as faults
use Rattle.text_lines.specs.Outlets.{IsSaid}
use Rattle.text_lines.specs.Turns.{Moment, IsHeard, HasCome, BreaksAt, Takes}
use Rattle.text_lines.specs.declared.loops.Flow.{Flow}
use Rattle.text_lines.specs.declared.loops.Flow.TheVariants.{Open, TooLong, Broken}
use Rattle.text_lines.specs.declared.outlet.WriteFault.{WriteFault}
use Rattle.text_lines.proofs.Runs.{heard-nothing}
use Rattle.text_lines.proofs.Writes.{said-nothing}

-- where nothing is ready, all was written
said-written : (old new : Option (List ℕ)) (text : List ℕ) → IsSaid old new [] text → Appends old new text
said-written old new text h = subst (Appends old new) (sym (append-nil h.front) ∙ sym h.split) h.appended

-- what came of the bytes that were read: all that they call for is written
pub record Stands {S : Type 0} (Asked : S → Type 0) (Answers : S → List ℕ → List ℕ → S → Type 0)
    (before later first : Option (List ℕ)) (start : S) (now : Moment S) : Type 0 where
  pub taken : List ℕ
  pub consumed : Consumes before later taken
  pub come : HasCome Answers start first taken now
  pub empty : now.ready ≡ []
  pub asked : Asked now.answerer
  pub unfinished : IsUnfinished now.held

pub stands-first : {S : Type 0} (Asked : S → Type 0) (Answers : S → List ℕ → List ℕ → S → Type 0)
    (before : Option (List ℕ)) (now : Moment S) → Asked now.answerer → now.held ≡ [] → now.ready ≡ [] →
    Stands Asked Answers before before now.written now.answerer now
stands-first Asked Answers before now asked line none = record {
  taken = [];
  consumed = Consumes-nil before;
  come = record {
    done = [];
    heard = subst (IsHeard [] []) (sym line) heard-nothing;
    answers = [];
    run = (refl, refl);
    said = subst (λ (x : List ℕ). IsSaid now.written now.written x []) (sym none) (said-nothing now.written);
  };
  empty = none;
  asked = asked;
  unfinished = subst IsUnfinished (sym line) unfinished-none;
}

pub stands-kept : {S : Type 0} (Asked : S → Type 0) (Answers : S → List ℕ → List ℕ → S → Type 0)
    (before left later first : Option (List ℕ)) (start : S) (now : Moment S) →
    Stands Asked Answers before left first start now → Keeps left later →
    Stands Asked Answers before later first start now
stands-kept Asked Answers before left later first start now h k = record {
  taken = h.taken;
  consumed = Consumes-kept before left later h.taken h.consumed k;
  come = h.come;
  empty = h.empty;
  asked = h.asked;
  unfinished = h.unfinished;
}

-- the reader gave nothing more
pub stands-read : {S : Type 0} (Asked : S → Type 0) (Answers : S → List ℕ → List ℕ → S → Type 0)
    (before left later first : Option (List ℕ)) (start : S) (now : Moment S) →
    Stands Asked Answers before left first start now → Consumes left later [] →
    Stands Asked Answers before later first start now
stands-read Asked Answers before left later first start now h c = record {
  taken = h.taken;
  consumed = subst (Consumes before later) (append-nil h.taken)
      (Consumes-trans before left later h.taken [] h.consumed c);
  come = h.come;
  empty = h.empty;
  asked = h.asked;
  unfinished = h.unfinished;
}

-- all lines that were read are answered
pub stands-all : {S : Type 0} (Asked : S → Type 0) (Answers : S → List ℕ → List ℕ → S → Type 0)
    (before later first : Option (List ℕ)) (start : S) (now : Moment S) →
    Stands Asked Answers before later first start now →
    AnswersAll Answers (streams before first) (streams later now.written) start now.answerer
stands-all Asked Answers before later first start now h =
    let come = h.come in
    let heard = come.heard in
    let short : has_long_line h.taken ≡ false =
    ap has_long_line heard.cut ∙ heard.is.long now.held ∙ long-rest now.held h.unfinished in
    let lines : lines_of h.taken ≡ come.done =
    ap lines_of heard.cut ∙ lines-rest_after heard.whole now.held heard.is h.unfinished ∙ heard.lines in
    record {
      taken = h.taken;
      consumed = h.consumed;
      text = come.answers;
      is = record {
        answers = come.answers;
        run = subst (λ (x : List (List ℕ)). IsRun Answers start x come.answers now.answerer) (sym lines) come.run;
        whole = sym (append-nil come.answers) ∙ ap (λ (b : Bool). come.answers ++ farewell b) (sym short);
      };
      appended = said-written first now.written come.answers
          (subst (λ (x : List ℕ). IsSaid first now.written x come.answers) h.empty come.said);
      short = short;
    }

-- what a piece comes to, by how its call ended
abbrev pub Outcome : {S F : Type 0} → (S → Type 0) → (S → List ℕ → List ℕ → S → Type 0) → (S → List ℕ → F → S → Type 0)
    → Option (List ℕ) → Option (List ℕ) → Option (List ℕ) → S → Moment S → Result (Flow F) WriteFault → Type 0
Outcome Asked Answers Breaks before later first start now (Ok Open) = Stands Asked Answers before later first start now
Outcome Asked Answers Breaks before later first start now (Ok TooLong) =
    AnswersLong Answers (streams before first) (streams later now.written) start now.answerer
Outcome Asked Answers Breaks before later first start now (Ok (Broken fault)) =
    AnswersUntil Answers Breaks fault (streams before first) (streams later now.written) start now.answerer
Outcome Asked Answers Breaks before later first start now (Err fault) =
    AnswersInPart Answers Breaks (streams before first) (streams later now.written) start now.answerer

module _ {S F : Type 0} (Asked : S → Type 0) (Answers : S → List ℕ → List ℕ → S → Type 0)
    (Breaks : S → List ℕ → F → S → Type 0) (before left later first : Option (List ℕ)) (start : S) (old new : Moment S)
    (piece : List ℕ) (h : Stands Asked Answers before left first start old) (read : Consumes left later piece) where
  consumes : Consumes before later (h.taken ++ piece)
  consumes = Consumes-trans before left later h.taken piece h.consumed read

  -- one piece more
  stands-more : new.ready ≡ [] → Takes Asked Answers Breaks old piece (Ok Open) new →
      Stands Asked Answers before later first start new
  stands-more none takes =
      record {
        taken = h.taken ++ piece;
        consumed = consumes;
        come = takes.came start first h.taken h.come;
        empty = none;
        asked = takes.next.0;
        unfinished = takes.next.1;
      }

  -- a line is too long
  stands-long : new.ready ≡ [] → Takes Asked Answers Breaks old piece (Ok TooLong) new →
      AnswersLong Answers (streams before first) (streams later new.written) start new.answerer
  stands-long none takes =
      let k = takes.came start first h.taken h.come in
      let taken = h.taken ++ piece in
      let cut : (more : List ℕ) → taken ++ more ≡ k.lines.heard.whole ++ (k.lines.after ++ more) = λ more.
      ap (λ (x : List ℕ). x ++ more) k.lines.heard.cut ∙ append_assoc k.lines.heard.whole k.lines.after more in
      let lines : (more : List ℕ) → lines_of (taken ++ more) ≡ k.lines.done = λ more.
      ap lines_of (cut more) ∙ k.lines.heard.is.lines (k.lines.after ++ more)
      ∙ ap (λ (x : List (List ℕ)). lines_of k.lines.heard.whole ++ x) (k.long.none more)
      ∙ append-nil (lines_of k.lines.heard.whole) ∙ k.lines.heard.lines in
      let long : (more : List ℕ) → has_long_line (taken ++ more) ≡ true = λ more.
      ap has_long_line (cut more) ∙ k.lines.heard.is.long (k.lines.after ++ more) ∙ k.long.long more in
      record {
        taken = taken;
        consumed = consumes;
        text = k.lines.answers ++ farewell true;
        is = λ more. record {
          answers = k.lines.answers;
          run = subst (λ (x : List (List ℕ)). IsRun Answers start x k.lines.answers new.answerer) (sym (lines more)) k.lines.run;
          whole = ap (λ (b : Bool). k.lines.answers ++ farewell b) (sym (long more));
        };
        appended = said-written first new.written (k.lines.answers ++ farewell true)
            (subst (λ (x : List ℕ). IsSaid first new.written x (k.lines.answers ++ farewell true)) none k.said);
        long = ap has_long_line (sym (append-nil taken)) ∙ long [];
      }

  lines_at : (done : List (List ℕ)) (after : List ℕ) → IsHeard (h.taken ++ piece) done after →
      lines_of (h.taken ++ piece) ≡ done ++ lines_of after
  lines_at done after heard = ap lines_of heard.cut ∙ heard.is.lines after
      ∙ ap (λ (x : List (List ℕ)). x ++ lines_of after) heard.lines

  lines_broken : (fault : F) (after : List ℕ) (a b : S) → BreaksAt Breaks fault after a b →
      FindsNone Breaks (lines_of after) a b
  lines_broken fault after a b breaks = record {
    line = strip_last 13 breaks.part;
    left = lines_of breaks.after;
    split = ap lines_of breaks.split ∙ lines-feed breaks.part breaks.after breaks.unfinished;
    fault = fault;
    breaks = breaks.breaks;
  }

  -- a line finds no answer
  stands-broken : (fault : F) → new.ready ≡ [] →
      Takes Asked Answers Breaks old piece (Ok (Broken fault)) new →
      AnswersUntil Answers Breaks fault (streams before first) (streams later new.written) start new.answerer
  unfolding lines_broken
  stands-broken fault none takes =
      let k = takes.came start first h.taken h.come in
      let finds = lines_broken fault k.lines.after k.mid new.answerer k.breaks in
      record {
        taken = h.taken ++ piece;
        consumed = consumes;
        done = k.lines.done;
        line = finds.line;
        left = finds.left;
        lines = lines_at k.lines.done k.lines.after k.lines.heard ∙ ap (λ (x : List (List ℕ)). k.lines.done ++ x) finds.split;
        answers = k.lines.answers;
        mid = k.mid;
        run = k.lines.run;
        breaks = k.breaks.breaks;
        appended = said-written first new.written k.lines.answers
            (subst (λ (x : List ℕ). IsSaid first new.written x k.lines.answers) none k.said);
      }

  last_of : (after : List ℕ) (mid : S) →
      (new.answerer ≡ mid) ⊎ ((fault : F) × BreaksAt Breaks fault after mid new.answerer) →
      (new.answerer ≡ mid) ⊎ FindsNone Breaks (lines_of after) mid new.answerer
  last_of after mid (inl same) = inl same
  last_of after mid (inr (fault, breaks)) = inr (lines_broken fault after mid new.answerer breaks)

  -- a write failed
  pub stands-lost : (fault : WriteFault) →
      Takes Asked Answers Breaks old piece (Err fault) new →
      AnswersInPart Answers Breaks (streams before first) (streams later new.written) start new.answerer
  stands-lost fault takes =
      let k = takes.came start first h.taken h.come in
      let taken = h.taken ++ piece in
      record {
        taken = taken;
        consumed = consumes;
        done = k.lines.done;
        left = lines_of k.lines.after;
        lines = lines_at k.lines.done k.lines.after k.lines.heard;
        answers = k.lines.answers;
        mid = k.mid;
        run = k.lines.run;
        last = last_of k.lines.after k.mid k.last;
        is_long = k.is_long;
        long = λ e. (
          ap lines_of (sym (append-nil k.lines.after)) ∙ (k.long e).none [],
          ap has_long_line k.lines.heard.cut ∙ k.lines.heard.is.long k.lines.after
              ∙ ap has_long_line (sym (append-nil k.lines.after)) ∙ (k.long e).long [],
        );
        front = k.lost.front;
        lost = k.lost.lost;
        text = k.lost.split;
        some = k.lost.some;
        appended = k.lost.appended;
      }

  by_flow : (flow : Flow F) → new.ready ≡ [] → Takes Asked Answers Breaks old piece (Ok flow) new →
      Outcome Asked Answers Breaks before later first start new (Ok flow)
  by_flow Open none takes = stands-more none takes
  by_flow TooLong none takes = stands-long none takes
  by_flow (Broken fault) none takes = stands-broken fault none takes

  pub stands-after : (flow is : Flow F) → flow ≡ is → new.ready ≡ [] →
      Takes Asked Answers Breaks old piece (Ok flow) new →
      Outcome Asked Answers Breaks before later first start new (Ok is)
  stands-after flow is same none takes =
      subst (λ (f : Flow F). Outcome Asked Answers Breaks before later first start new (Ok f)) same
      (by_flow flow none takes)

-- ---- of a reader that tells its bytes, and that has come to its end

pub whole-of : {S : Type 0} (Answers : S → List ℕ → List ℕ → S → Type 0) (before later old new : Option (List ℕ))
    (start end : S) → AnswersAll Answers (streams before old) (streams later new) start end → IsAtEnd later →
    IfSome before (λ input. (text : List ℕ) × IsText Answers start input text end × Appends old new text)
whole-of Answers None later old new start end h e = tt
whole-of Answers (Some x) None old new start end h e = absurd h.consumed
whole-of Answers (Some x) (Some y) old new start end h e =
    let all : h.taken ≡ x = sym (append-nil h.taken) ∙ ap (λ (z : List ℕ). h.taken ++ z) (sym e) ∙ sym h.consumed in
    (h.text, subst (λ (input : List ℕ). IsText Answers start input h.text end) all h.is, h.appended)

pub whole-long : {S : Type 0} (Answers : S → List ℕ → List ℕ → S → Type 0) (before later old new : Option (List ℕ))
    (start end : S) → AnswersLong Answers (streams before old) (streams later new) start end →
    IfSome before (λ input. (text : List ℕ) × IsText Answers start input text end × Appends old new text)
whole-long Answers None later old new start end h = tt
whole-long Answers (Some x) None old new start end h = absurd h.consumed
whole-long Answers (Some x) (Some y) old new start end h =
    (h.text, subst (λ (input : List ℕ). IsText Answers start input h.text end) (sym h.consumed) (h.is y), h.appended)

pub whole-ended : {S F : Type 0} (Answers : S → List ℕ → List ℕ → S → Type 0) (Breaks : S → List ℕ → F → S → Type 0)
    (result : Result (Unit {0}) (LoopFault F)) (before later old new : Option (List ℕ)) (start end : S) →
    Ended Answers Breaks result (streams before old) (streams later new) start end → OnOk result (IsAtEnd later) →
    OnOk result (IfSome before (λ input. (text : List ℕ) × IsText Answers start input text end × Appends old new text))
whole-ended Answers Breaks (Ok done) before later old new start end h e =
    whole-of Answers before later old new start end h e
whole-ended Answers Breaks (Err fault) before later old new start end h e = tt

pub long-ended : {S F : Type 0} (Answers : S → List ℕ → List ℕ → S → Type 0) (Breaks : S → List ℕ → F → S → Type 0)
    (result : Result (Unit {0}) (LoopFault F)) (before later old new : Option (List ℕ)) (start end : S) →
    Ended Answers Breaks result (streams before old) (streams later new) start end → IsErrOf result faults.LineTooLong →
    IfSome before (λ input. (text : List ℕ) × IsText Answers start input text end × Appends old new text)
long-ended {F = F} Answers Breaks result before later old new start end h is =
    whole-long Answers before later old new start end
    (subst (λ (r : Result (Unit {0}) (LoopFault F)). Ended Answers Breaks r (streams before old) (streams later new) start end) is h)
