-- The answers to `line G` that are kept.
use Rattle.std.specs.Prelude.{ℕ, ◌≡◌, ◌==◌, ◌⊎◌, ◌≤◌, ◌+◌, ◌-◌, ◌^◌, List, [], ◌∷◌, ◌++◌, length, min, filter, not, nat_le}
use Rattle.std.specs.Prelude.{Option, None, Some, if◌then◌else◌}
use Rattle.std.specs.List.{sum_by}
use Rattle.std.specs.String.{string_bytes}
use Rattle.lobby_talk.specs.declared.kept_answer.KeptAnswer.{KeptAnswer}
use Rattle.lobby_desk.specs.declared.telling.Kind.{Kind}
use Rattle.lobby_desk.specs.declared.telling.Kind.TheVariants.{Whole, Position as AtPosition, Line, Moves, Log}
use Rattle.lobby_desk.specs.declared.telling.Message.{Message}
use Rattle.lobby_talk.specs.Making.{IsOfLine, IsMade}

-- the bytes that one takes, with the PGN that it is kept by, and that all take
abbrev pub size_of : KeptAnswer → ℕ
size_of one = length (string_bytes one.pgn) + length (string_bytes one.answer)

abbrev pub size_of_all : List KeptAnswer → ℕ
size_of_all answers = sum_by size_of answers

-- So many bytes are kept at most.
abbrev pub kept_most : ℕ
kept_most = 16777216

-- a number of bytes, up to 2^64 - 1
abbrev pub shown : ℕ → ℕ
shown n = min n (2 ^ 64 - 1)

-- Each is the answer to `line G` where the server answers `pgn G` by the text that it is kept by.
abbrev pub AllOfLine : List KeptAnswer → Type 0
AllOfLine [] = Unit {0}
AllOfLine (one ∷ ones) = ∥ IsOfLine (string_bytes one.pgn) (string_bytes one.answer) ∥₁ × AllOfLine ones

pub record AreKept (answers : List KeptAnswer) : Type 0 where
  pub within : size_of_all answers ≤ kept_most
  pub each : AllOfLine answers

-- Among these answers, which were made before, is this one of this text.
abbrev pub HasKept : List KeptAnswer → List ℕ → List ℕ → Type 0
HasKept [] text answer = ⊥
HasKept (one ∷ ones) text answer =
    (string_bytes one.pgn ≡ text) × (string_bytes one.answer ≡ answer) ⊎ HasKept ones text answer

-- None of this text is.
abbrev pub HasNone : List KeptAnswer → List ℕ → Type 0
HasNone answers text = (answer : List ℕ) → ¬ HasKept answers text answer

-- the answers of all games but one
abbrev pub of_others : ℕ → List KeptAnswer → List KeptAnswer
of_others game answers = filter (λ (kept : KeptAnswer). not (kept.game == game)) answers

-- Of these answers, the oldest of which is the first, the newest: as many as have so many bytes at most.
abbrev pub newest : ℕ → List KeptAnswer → List KeptAnswer
newest most [] = []
newest most (one ∷ ones) =
    if nat_le (size_of_all (one ∷ ones)) most then one ∷ ones else newest most ones

-- One that was made stands behind those of the other games, of which just the oldest go that leave it no room. One that
-- alone takes more bytes than are kept is not kept.
abbrev pub IsPut : KeptAnswer → List KeptAnswer → List KeptAnswer → Type 0
IsPut one old new =
    new ≡ (if nat_le (size_of one) kept_most
    then newest (kept_most - size_of one) (of_others one.game old) ++ one ∷ []
    else newest kept_most (of_others one.game old))

-- What is kept behind an answer, where one was made.
abbrev pub IsPutIf : Option KeptAnswer → List KeptAnswer → List KeptAnswer → Type 0
IsPutIf None old new = new ≡ old
IsPutIf (Some one) old new = IsPut one old new

-- Each answer to `line G` that is one of these is made by it, and no other is.
abbrev pub IsOfKept : List KeptAnswer → Kind → List ℕ → Kind → List ℕ → Type 0
IsOfKept kept Line text Line new = HasNone kept text
IsOfKept kept Line text Whole new = HasKept kept text new
IsOfKept kept Line text AtPosition new = HasKept kept text new
IsOfKept kept Line text Moves new = HasKept kept text new
IsOfKept kept Line text Log new = HasKept kept text new
IsOfKept kept Whole text other new = Unit {0}
IsOfKept kept AtPosition text other new = Unit {0}
IsOfKept kept Moves text other new = Unit {0}
IsOfKept kept Log text other new = Unit {0}

-- A message, as it goes out, or as it waits for its answer: to the same connections, and where it is an answer to
-- `line G` by one of these, which were made before; it waits just where none of them is its answer.
pub record IsMadeOf (kept : List KeptAnswer) (told made : Message) : Type 0 where
  pub to : made.to ≡ told.to
  pub text : IsMade told.kind (string_bytes told.text) made.kind (string_bytes made.text)
  pub of_kept : IsOfKept kept told.kind (string_bytes told.text) made.kind (string_bytes made.text)
