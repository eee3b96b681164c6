-- How the loop goes on: `start` and `first` are from its beginning, `taken` is what was taken since then, and `now` is
-- the moment that is spoken of.
use Rattle.std.specs.Prelude.{ℕ, ◌≡◌, ◌⊎◌, Bool, true, List, [], ◌∷◌, ◌++◌, Option, Result, Ok, Err}
use Rattle.std.specs.Io.BufRead.{strip_last}
use Rattle.text_lines.specs.Lines.{lines_of, has_long_line, IsUnfinished}
use Rattle.text_lines.specs.Heard.{IsWhole}
use Rattle.text_lines.specs.Texts.{IsRun, farewell}
use Rattle.text_lines.specs.Outlets.{IsSaid, IsLost}
use Rattle.text_lines.specs.declared.loops.Flow.{Flow}
use Rattle.text_lines.specs.declared.loops.Flow.TheVariants.{Open, TooLong, Broken}
use Rattle.text_lines.specs.declared.loops.LoopState.{LoopState}
use Rattle.text_lines.specs.declared.outlet.WriteFault.{WriteFault}

-- The loop at a moment: what the writer holds, what is ready behind it, who answers, and what came of the next line.
pub record Moment (S : Type 0) : Type 0 where
  pub written : Option (List ℕ)
  pub ready : List ℕ
  pub answerer : S
  pub held : List ℕ

abbrev pub moment_of : {A : Type 0} → LoopState A → Option (List ℕ) → Moment A
moment_of state written =
    record { written = written; ready = state.ready.bytes; answerer = state.answerer; held = state.line.items }

-- What was taken is whole lines, which were answered, and what comes after them.
pub record IsHeard (taken : List ℕ) (done : List (List ℕ)) (after : List ℕ) : Type 0 where
  pub whole : List ℕ
  pub is : IsWhole whole
  pub lines : lines_of whole ≡ done
  pub cut : taken ≡ whole ++ after

-- With these bytes a line is too long, whatever comes after them.
pub record IsTooLong (bytes : List ℕ) : Type 0 where
  pub none : (more : List ℕ) → lines_of (bytes ++ more) ≡ []
  pub long : (more : List ℕ) → has_long_line (bytes ++ more) ≡ true

-- All whole lines were answered, and what is held has come of the next.
pub record HasCome {S : Type 0} (Answers : S → List ℕ → List ℕ → S → Type 0) (start : S) (first : Option (List ℕ))
    (taken : List ℕ) (now : Moment S) : Type 0 where
  pub done : List (List ℕ)
  pub heard : IsHeard taken done now.held
  pub answers : List ℕ
  pub run : IsRun Answers start done answers now.answerer
  pub said : IsSaid first now.written now.ready answers

-- Whole lines of what was taken were answered, and other bytes came behind them.
pub record AreAnswered {S : Type 0} (Answers : S → List ℕ → List ℕ → S → Type 0) (start : S) (taken : List ℕ) (end : S)
    : Type 0 where
  pub done : List (List ℕ)
  pub after : List ℕ
  pub heard : IsHeard taken done after
  pub answers : List ℕ
  pub run : IsRun Answers start done answers end

-- All whole lines were answered, and the next line is too long.
pub record HasGrownLong {S : Type 0} (Answers : S → List ℕ → List ℕ → S → Type 0) (start : S)
    (first : Option (List ℕ)) (taken : List ℕ) (now : Moment S) : Type 0 where
  pub lines : AreAnswered Answers start taken now.answerer
  pub long : IsTooLong lines.after
  pub said : IsSaid first now.written now.ready (lines.answers ++ farewell true)

-- The first line of these bytes finds no answer.
pub record BreaksAt {S F : Type 0} (Breaks : S → List ℕ → F → S → Type 0) (fault : F) (bytes : List ℕ) (s t : S)
    : Type 0 where
  pub part : List ℕ
  pub after : List ℕ
  pub split : bytes ≡ part ++ 10 ∷ after
  pub unfinished : IsUnfinished part
  pub breaks : Breaks s (strip_last 13 part) fault t

-- Some were answered, and the next found no answer.
pub record HasBroken {S F : Type 0} (Answers : S → List ℕ → List ℕ → S → Type 0)
    (Breaks : S → List ℕ → F → S → Type 0) (fault : F) (start : S) (first : Option (List ℕ)) (taken : List ℕ)
    (now : Moment S) : Type 0 where
  pub mid : S
  pub lines : AreAnswered Answers start taken mid
  pub breaks : BreaksAt Breaks fault lines.after mid now.answerer
  pub said : IsSaid first now.written now.ready lines.answers

-- A write failed.
pub record HasLost {S F : Type 0} (Answers : S → List ℕ → List ℕ → S → Type 0) (Breaks : S → List ℕ → F → S → Type 0)
    (start : S) (first now : Option (List ℕ)) (taken : List ℕ) (s : S) : Type 0 where
  pub mid : S
  pub lines : AreAnswered Answers start taken mid
  pub last : (s ≡ mid) ⊎ ((fault : F) × BreaksAt Breaks fault lines.after mid s)
  pub is_long : Bool
  pub long : is_long ≡ true → IsTooLong lines.after
  pub lost : IsLost first now (lines.answers ++ farewell is_long)

module _ {S F : Type 0} (Asked : S → Type 0) (Answers : S → List ℕ → List ℕ → S → Type 0)
    (Breaks : S → List ℕ → F → S → Type 0) where
  -- what has come of all that was taken, by what the last call came to
  abbrev pub Came : S → Option (List ℕ) → List ℕ → Result (Flow F) WriteFault → Moment S → Type 0
  Came start first taken (Ok Open) now = HasCome Answers start first taken now
  Came start first taken (Ok TooLong) now = HasGrownLong Answers start first taken now
  Came start first taken (Ok (Broken fault)) now = HasBroken Answers Breaks fault start first taken now
  Came start first taken (Err fault) now = HasLost Answers Breaks start first now.written taken now.answerer

  -- where more is taken, the next line may be asked, and what is held is less than a line
  abbrev pub MayGoOn : Result (Flow F) WriteFault → Moment S → Type 0
  MayGoOn (Ok Open) now = Asked now.answerer × IsUnfinished now.held
  MayGoOn result now = Unit {0}

  -- What a call did that took bytes, whatever came before.
  pub record Takes (old : Moment S) (bytes : List ℕ) (result : Result (Flow F) WriteFault) (new : Moment S)
      : Type 0 where
    pub next : MayGoOn result new
    pub came : (start : S) (first : Option (List ℕ)) (taken : List ℕ) → HasCome Answers start first taken old
        → Came start first (taken ++ bytes) result new
