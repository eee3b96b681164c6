-- Lines one after another, and what was heard of them.
use Rattle.std.proofs.Common.{◌≡◌, ℕ, ◌<◌, ◌≤◌, ◌+◌, false, List, [], ◌∷◌, ◌++◌, length, sym, refl, ap, ◌∙◌, subst, append_assoc, append-nil, arith, length-append}
use Rattle.std.specs.Io.BufRead.{strip_last}
use Rattle.std.proofs.lemmas.List.Elements.{All-append}
use Rattle.text_lines.specs.Lines.{is_feed, HasNoFeed, IsUnfinished, lines_of, has_long_line}
use Rattle.text_lines.proofs.LineLemmas.{lines-feed, lines-rest, lines-long, long-long}
use Rattle.text_lines.proofs.Wholes.{whole-none, whole-line, whole-append, unfinished-none}
use Rattle.text_lines.specs.Texts.{IsRun}
use Rattle.text_lines.specs.Turns.{IsHeard, IsTooLong, BreaksAt}

-- one line more
pub run-more : {S : Type 0} (Answers : S → List ℕ → List ℕ → S → Type 0) (s : S) (lines : List (List ℕ)) (text : List ℕ)
    (t : S) (line answer : List ℕ) (u : S) → IsRun Answers s lines text t → Answers t line answer u
    → IsRun Answers s (lines ++ line ∷ []) (text ++ answer) u
run-more {S = S} Answers s [] text t line answer u (none, same) is = (
  answer,
  u,
  [],
  subst (λ (x : S). Answers x line answer u) same is,
  (refl, refl),
  ap (λ (x : List ℕ). x ++ answer) none ∙ sym (append-nil answer),
)
run-more Answers s (l ∷ lines) text t line answer u (a, between, more, first, rest, whole) is = (
  a,
  between,
  more ++ answer,
  first,
  run-more Answers between lines more t line answer u rest is,
  ap (λ (x : List ℕ). x ++ answer) whole ∙ append_assoc a more answer,
)

-- bytes for which there is room
pub unfinished-more : (held part : List ℕ) → IsUnfinished held → HasNoFeed part → length held + length part ≤ 255 →
    IsUnfinished (held ++ part)
unfinished-more held part u n l = record {
  no_feed = All-append (λ b. is_feed b ≡ false) held part u.no_feed n;
  short = omega (arith, length-append held part);
}

pub heard-nothing : IsHeard [] [] []
heard-nothing = record { whole = []; is = whole-none; lines = lines-rest [] unfinished-none; cut = refl }

-- more bytes
pub heard-more : (taken : List ℕ) (done : List (List ℕ)) (after more : List ℕ) → IsHeard taken done after →
    IsHeard (taken ++ more) done (after ++ more)
heard-more taken done after more h = record {
  whole = h.whole;
  is = h.is;
  lines = h.lines;
  cut = ap (λ (x : List ℕ). x ++ more) h.cut ∙ append_assoc h.whole after more;
}

-- a line feed
pub heard-feed : (taken : List ℕ) (done : List (List ℕ)) (held : List ℕ) → IsHeard taken done held → IsUnfinished held →
    IsHeard (taken ++ 10 ∷ []) (done ++ strip_last 13 held ∷ []) []
heard-feed taken done held h u = record {
  whole = h.whole ++ (held ++ 10 ∷ []);
  is = whole-append h.whole (held ++ 10 ∷ []) h.is (whole-line held u);
  lines = h.is.lines (held ++ 10 ∷ [])
      ∙ ap (λ (x : List (List ℕ)). x ++ lines_of (held ++ 10 ∷ [])) h.lines
      ∙ ap (λ (x : List (List ℕ)). done ++ x)
      (lines-feed held [] u ∙ ap (λ (x : List (List ℕ)). strip_last 13 held ∷ x) (lines-rest [] unfinished-none));
  cut = ap (λ (x : List ℕ). x ++ 10 ∷ []) h.cut ∙ append_assoc h.whole held (10 ∷ [])
      ∙ sym (append-nil (h.whole ++ (held ++ 10 ∷ [])));
}

-- more than 255 bytes without a line feed
pub too-long : (bytes : List ℕ) → HasNoFeed bytes → 255 < length bytes → IsTooLong bytes
too-long bytes n l = record {
  none = λ more. lines-long bytes more n l;
  long = λ more. long-long bytes more n l;
}

pub too-long-more : (bytes more : List ℕ) → IsTooLong bytes → IsTooLong (bytes ++ more)
too-long-more bytes more h = record {
  none = λ rest. ap lines_of (append_assoc bytes more rest) ∙ h.none (more ++ rest);
  long = λ rest. ap has_long_line (append_assoc bytes more rest) ∙ h.long (more ++ rest);
}

pub breaks-more : {S F : Type 0} (Breaks : S → List ℕ → F → S → Type 0) (fault : F) (bytes more : List ℕ) (s t : S) →
    BreaksAt Breaks fault bytes s t → BreaksAt Breaks fault (bytes ++ more) s t
breaks-more Breaks fault bytes more s t h = record {
  part = h.part;
  after = h.after ++ more;
  split = ap (λ (x : List ℕ). x ++ more) h.split ∙ append_assoc h.part (10 ∷ h.after) more;
  unfinished = h.unfinished;
  breaks = h.breaks;
}
