-- A run is what one session of a hub is told.
use Rattle.std.specs.Prelude.{ℕ, ◌≡◌, List, [], ◌∷◌, ◌++◌, None, map}
use Rattle.std.specs.List.{AllZip, concat}
use Rattle.text_lines.specs.Lines.{lines_of}
use Rattle.sector_dev.specs.Device.{Measures}
use Rattle.chess_entry.specs.State.{TableState}
use Rattle.chess_hub.specs.Session.{Said}
use Rattle.chess_hub.specs.Turn.{IsReading}
use Rattle.text_lines.specs.Texts.{IsRun, IsText}
use Rattle.chess_hub.specs.Calls.{Call, Connected, Fed, Turned}
use Rattle.chess_hub.specs.Sessions.{Merged, AreMerged, AreAnsweredAfter, answers_to, session_text}
use Rattle.chess_hub.specs.Turning.{Kept}
use Rattle.chess_hub.specs.Running.{Standing, stands, written, AnswersLine}

-- answers as they are written, one behind the other
abbrev pub written_all : List Said → List ℕ
written_all [] = []
written_all (answer ∷ answers) = written answer ++ written_all answers

-- a line of the first session, as a turn takes it
pub record IsOfTheFirst (line : List ℕ) (m : Merged) : Type 0 where
  pub session : m.session ≡ 1
  pub reads : IsReading line m.line

-- the moments that come one after the other
abbrev pub GiveAll : {M : Type 0} → (M → ℕ → M → Type 0) → M → List ℕ → M → Type 0
GiveAll gives from [] to = to ≡ from
GiveAll {M = M} gives from (at ∷ ats) to = (between : M) × gives from at between × GiveAll gives between ats to

-- after these calls more, each standing before the one that came earlier: the first session, of the number 1, sends
-- pieces
abbrev pub sent_after : List Call → List (List ℕ) → List Call
sent_after calls [] = calls
sent_after calls (piece ∷ pieces) = sent_after (Fed 1 piece ∷ calls) pieces

-- and turns fall at moments, each for one line
abbrev pub turns_after : List Call → List ℕ → List Call
turns_after calls [] = calls
turns_after calls (at ∷ ats) = turns_after (Turned at 1 ∷ calls) ats

-- A session begins, as the only one, and sends these pieces; then turns for one line each fall at the moments of these
-- lines.
abbrev pub calls_of : List (List ℕ) → List Merged → List Call
calls_of pieces merged = turns_after (sent_after (Connected 1 ∷ []) pieces) (map (λ m. m.at) merged)

-- Lines, all of the first session of a hub, each taken at the next moment by a turn of its own, have answers by the
-- verdicts on the table; and this is what the session is given for them, as it is written. Of every input that begins
-- with these lines, in whatever pieces it is sent, they are the merged list of these calls.
pub record AreTold {M : Type 0} (gives : M → ℕ → M → Type 0) (from to : M) (before after : TableState)
    (lines : List (List ℕ)) (told : List ℕ) : Type 0 where
  pub merged : List Merged
  pub are : AllZip IsOfTheFirst lines merged
  pub moments : GiveAll gives from (map (λ m. m.at) merged) to
  pub merges : (pieces left : List (List ℕ)) → lines_of (concat pieces) ≡ lines ++ left
      → AreMerged (calls_of pieces merged) merged
  pub answers : List Said
  pub answered : AreAnsweredAfter [] before merged answers after
  pub is : told ≡ written_all (answers_to 1 merged answers)

-- Where these are the whole lines of an input, the session's text is as it is written, in whatever pieces it was sent.
pub record IsSessionText {M : Type 0} (gives : M → ℕ → M → Type 0) (from to : M) (before after : TableState)
    (input text : List ℕ) : Type 0 where
  pub told : List ℕ
  pub lines : AreTold gives from to before after (lines_of input) told
  pub is : (pieces : List (List ℕ)) → concat pieces ≡ input
      → text ≡ written_all (session_text (calls_of pieces lines.merged) lines.merged lines.answers 1)

-- The text of a run is the text of a session; and of the first lines of a run, where it ends before all are answered,
-- it is what the session is given for these.
pub record LawOfRun {D M : Type 0} (of : Measures D) (gives : M → ℕ → M → Type 0) : Type 0 where
  pub whole : (store : Kept D) (moments : M) (input text : List ℕ) (end : Standing D M)
      → IsText (AnswersLine of gives) (stands store None moments) input text end
      → IsSessionText gives moments end.moments store.table end.store.table input text
  pub front : (store : Kept D) (moments : M) (lines : List (List ℕ)) (told : List ℕ) (end : Standing D M)
      → IsRun (AnswersLine of gives) (stands store None moments) lines told end
      → AreTold gives moments end.moments store.table end.store.table lines told
