-- Replays by which `line G` is answered: a part in each turn.
use Rattle.std.specs.Prelude.{ℕ, ◌≡◌, ◌≤◌, ◌<◌, ◌+◌, ◌⊎◌, List, Option, None, Some}
use Rattle.std.specs.String.{string_bytes}
use Rattle.text_pgn.specs.Game.{NoStart}
use Rattle.text_pgn.specs.Replaying.{left, IsUnplayed, StopsWithin}
use Rattle.lobby_talk.specs.declared.kept_answer.KeptAnswer.{KeptAnswer}
use Rattle.lobby_talk.specs.declared.under_way.UnderWay.{UnderWay}
use Rattle.lobby_talk.specs.declared.under_way.Going.{Going}
use Rattle.lobby_talk.specs.declared.under_way.Going.TheVariants.{More, Whole}
use Rattle.lobby_talk.specs.Replays.{plies_most}
use Rattle.lobby_talk.specs.Making.{lines_behind}
use Rattle.lobby_talk.specs.Keeping.{HasKept, HasNone}

-- What a turn brings of a replay of this text: where more plies are left than a turn may play, it has played just so
-- many, and more are left; else the answer, also where a word that it may play names no move.
abbrev pub GoesOn : UnderWay → Going → Type 0
GoesOn old (More new) =
    (string_bytes new.pgn ≡ string_bytes old.pgn) × (left new.replay + plies_most ≡ left old.replay)
    × (0 < left new.replay)
GoesOn old (Whole answer) =
    (string_bytes answer.pgn ≡ string_bytes old.pgn)
    × ((left old.replay ≤ plies_most) ⊎ StopsWithin plies_most old.replay)

-- A replay of this text begins, of which nothing is played; or the text has no start, and that is the answer.
abbrev pub BeginsOf : List ℕ → Going → Type 0
BeginsOf text (More new) = (string_bytes new.pgn ≡ text) × IsUnplayed new.replay
BeginsOf text (Whole answer) = (string_bytes answer.pgn ≡ text) × NoStart (lines_behind text)

-- what is under way then, and the answer
abbrev pub IsSet : Going → Option UnderWay → Option KeptAnswer → Type 0
IsSet (More one) replay answer = (replay ≡ Some one) × (answer ≡ None)
IsSet (Whole one) replay answer = (replay ≡ None) × (answer ≡ Some one)

-- the answer to this text is one of these, which were made before
abbrev pub IsCopied : List KeptAnswer → List ℕ → KeptAnswer → Type 0
IsCopied kept text answer = (string_bytes answer.pgn ≡ text) × HasKept kept text (string_bytes answer.answer)

-- In a turn the replay that is under way goes on, and where none is, the answer to this text is there at once if it is
-- kept; if none is, a replay of it begins, or the text has no start. No other is played.
abbrev pub Replays : List KeptAnswer → Option (List ℕ) → Option UnderWay → Option UnderWay → Option KeptAnswer → Type 0
Replays kept next (Some old) (Some new) None = GoesOn old (More new)
Replays kept next (Some old) None (Some answer) = GoesOn old (Whole answer)
Replays kept (Some text) None (Some new) None = HasNone kept text × BeginsOf text (More new)
Replays kept (Some text) None None (Some answer) =
    IsCopied kept text answer ⊎ (HasNone kept text × BeginsOf text (Whole answer))
Replays kept None None None None = Unit {0}
Replays kept _ _ _ _ = ⊥
