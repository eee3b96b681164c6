-- Lines of the server.
use Rattle.std.specs.Prelude.{ℕ, ◌≡◌, Bool, true, false, List, [], ◌∷◌, ◌++◌, IsUtf8}
use Rattle.text_lines.specs.Lines.{HasNoFeed}
use Rattle.lobby_desk.specs.Events.{Heard}
use Rattle.lobby_desk.specs.Lines.{ended}
use Rattle.lobby_talk.specs.declared.talk.Talk.{Talk}
use Rattle.lobby_talk.specs.Talking.{Moves}

-- the bytes of lines, the last line first
abbrev pub bytes_of : List (List ℕ) → List ℕ
bytes_of [] = []
bytes_of (line ∷ before) = bytes_of before ++ ended line

-- The desk is told these lines, one after the other, the last first.
abbrev pub AreHeard : List (List ℕ) → Talk → Talk → Type 0
AreHeard [] old new = new ≡ old
AreHeard (line ∷ before) old new =
    (between : Talk) × AreHeard before old between × HasNoFeed line × Moves between (Heard line) new

-- Of these bytes the desk is told the lines in front, and these bytes stand behind them.
pub record AreTaken (bytes rest : List ℕ) (old new : Talk) : Type 0 where
  pub lines : List (List ℕ)
  pub cut : bytes ≡ bytes_of lines ++ rest
  pub heard : AreHeard lines old new

-- What stands behind them: no whole line; or, where there is one that is no text, that line and what is behind it.
abbrev pub IsLeft : Bool → List ℕ → Type 0
IsLeft true rest = HasNoFeed rest
IsLeft false rest = (line : List ℕ) × (next : List ℕ) × (rest ≡ ended line ++ next) × HasNoFeed line × ¬ IsUtf8 line
