-- What the lines of an input are answered, by a rule: at this state a line is answered with this text, and that state
-- comes.
use Rattle.std.specs.Prelude.{ℕ, ◌≡◌, ◌⊎◌, ◌<◌, Bool, true, false, List, [], ◌∷◌, ◌++◌, Option, Some, None, String}
use Rattle.std.specs.Prelude.{Result, Ok, Err, length, codes, string_bytes}
use Rattle.std.specs.Io.KnownBytes.{Appends, Consumes}
use Rattle.text_lines.specs.Lines.{lines_of, has_long_line}
use Rattle.text_lines.specs.declared.answerer.Answer.{Answer}
use Rattle.text_lines.specs.declared.answerer.LoopFault.{LoopFault}
use Rattle.text_lines.specs.declared.answerer.LoopFault.TheVariants as faults

-- whole lines behind an answer's first, where there are any
abbrev pub body_of : {Z : Type 0} → Option (String Z) → List ℕ
body_of None = []
body_of (Some body) = string_bytes body

-- an answer as it is written: a line with its line feed, and what comes behind it
abbrev pub as_text : Answer → List ℕ
as_text answer = answer.line.bytes ++ 10 ∷ body_of answer.body

-- what is written where a line is too long
abbrev pub farewell : Bool → List ℕ
farewell true = codes "bye LineTooLong" ++ 10 ∷ []
farewell false = []

-- the answers to lines, in their order, each at the state that the line before left
abbrev pub IsRun : {S : Type 0} → (S → List ℕ → List ℕ → S → Type 0) → S → List (List ℕ) → List ℕ → S → Type 0
IsRun Answers s [] text t = (text ≡ []) × (t ≡ s)
IsRun {S = S} Answers s (line ∷ lines) text t = (answer : List ℕ) × (between : S) × (more : List ℕ)
    × Answers s line answer between × IsRun Answers between lines more t × (text ≡ answer ++ more)

-- The text of an input: the answers to its whole lines, and the farewell where a line was too long.
pub record IsText {S : Type 0} (Answers : S → List ℕ → List ℕ → S → Type 0) (start : S) (input text : List ℕ) (end : S)
    : Type 0 where
  pub answers : List ℕ
  pub run : IsRun Answers start (lines_of input) answers end
  pub whole : text ≡ answers ++ farewell (has_long_line input)

-- ---- how a loop ends

-- what a reader has left, where that is known, and what a writer has been given
pub record Streams : Type 0 where
  pub unread : Option (List ℕ)
  pub written : Option (List ℕ)

abbrev pub streams : Option (List ℕ) → Option (List ℕ) → Streams
streams unread written = record { unread = unread; written = written }

-- Some bytes were read, of which no line is too long, and their text was written.
pub record AnswersAll {S : Type 0} (Answers : S → List ℕ → List ℕ → S → Type 0) (old new : Streams) (start end : S)
    : Type 0 where
  pub taken : List ℕ
  pub consumed : Consumes old.unread new.unread taken
  pub text : List ℕ
  pub is : IsText Answers start taken text end
  pub appended : Appends old.written new.written text
  pub short : has_long_line taken ≡ false

-- Some bytes were read, of which a line is too long, and their text was written, which is that of all that may come.
pub record AnswersLong {S : Type 0} (Answers : S → List ℕ → List ℕ → S → Type 0) (old new : Streams) (start end : S)
    : Type 0 where
  pub taken : List ℕ
  pub consumed : Consumes old.unread new.unread taken
  pub text : List ℕ
  pub is : (more : List ℕ) → IsText Answers start (taken ++ more) text end
  pub appended : Appends old.written new.written text
  pub long : has_long_line taken ≡ true

-- Some bytes were read, the first lines of them were answered and the answers written, and the next found no answer.
pub record AnswersUntil {S F : Type 0} (Answers : S → List ℕ → List ℕ → S → Type 0)
    (Breaks : S → List ℕ → F → S → Type 0) (fault : F) (old new : Streams) (start end : S) : Type 0 where
  pub taken : List ℕ
  pub consumed : Consumes old.unread new.unread taken
  pub done : List (List ℕ)
  pub line : List ℕ
  pub left : List (List ℕ)
  pub lines : lines_of taken ≡ done ++ line ∷ left
  pub answers : List ℕ
  pub mid : S
  pub run : IsRun Answers start done answers mid
  pub breaks : Breaks mid line fault end
  pub appended : Appends old.written new.written answers

-- the first of these lines finds no answer
pub record FindsNone {S F : Type 0} (Breaks : S → List ℕ → F → S → Type 0) (lines : List (List ℕ)) (s t : S)
    : Type 0 where
  pub line : List ℕ
  pub left : List (List ℕ)
  pub split : lines ≡ line ∷ left
  pub fault : F
  pub breaks : Breaks s line fault t

-- Some bytes were read, the first lines of them were answered, and of the text of these a front was written, but not
-- all of it. The farewell belongs to the text only where all lines were answered and the next is too long.
pub record AnswersInPart {S F : Type 0} (Answers : S → List ℕ → List ℕ → S → Type 0)
    (Breaks : S → List ℕ → F → S → Type 0) (old new : Streams) (start end : S) : Type 0 where
  pub taken : List ℕ
  pub consumed : Consumes old.unread new.unread taken
  pub done : List (List ℕ)
  pub left : List (List ℕ)
  pub lines : lines_of taken ≡ done ++ left
  pub answers : List ℕ
  pub mid : S
  pub run : IsRun Answers start done answers mid
  -- after them nothing was asked, or one more line, which found no answer
  pub last : (end ≡ mid) ⊎ FindsNone Breaks left mid end
  pub is_long : Bool
  pub long : is_long ≡ true → (left ≡ []) × (has_long_line taken ≡ true)
  pub front : List ℕ
  pub lost : List ℕ
  pub text : answers ++ farewell is_long ≡ front ++ lost
  pub some : 0 < length lost
  pub appended : Appends old.written new.written front

-- `Read` comes exactly where the reader failed; `before` and `after` say whether it has.
abbrev pub IsOfSource : {F : Type 0} → Result (Unit {0}) (LoopFault F) → Bool → Bool → Type 0
IsOfSource (Ok _) before after = after ≡ before
IsOfSource (Err faults.Read) before after = after ≡ true
IsOfSource (Err faults.Write) before after = after ≡ before
IsOfSource (Err faults.LineTooLong) before after = after ≡ before
IsOfSource (Err (faults.Unanswered fault)) before after = after ≡ before

-- At `Ok` the reader has come to its end, and no line was too long.
abbrev pub Ended : {S F : Type 0} → (S → List ℕ → List ℕ → S → Type 0) → (S → List ℕ → F → S → Type 0)
    → Result (Unit {0}) (LoopFault F) → Streams → Streams → S → S → Type 0
Ended Answers Breaks (Ok _) old new start end = AnswersAll Answers old new start end
Ended Answers Breaks (Err faults.Read) old new start end = AnswersAll Answers old new start end
Ended Answers Breaks (Err faults.Write) old new start end = AnswersInPart Answers Breaks old new start end
Ended Answers Breaks (Err faults.LineTooLong) old new start end = AnswersLong Answers old new start end
Ended Answers Breaks (Err (faults.Unanswered fault)) old new start end =
    AnswersUntil Answers Breaks fault old new start end
