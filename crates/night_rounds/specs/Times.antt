-- The times of a game as a text.
use Rattle.std.specs.Prelude.{ℕ, zero, suc, ◌==◌, Bool, true, false, ◌&&◌, nat_le, List, [], ◌∷◌, ◌++◌, codes, decimal}
use Rattle.std.specs.Prelude.{Option, None, Some, if◌then◌else◌}
use Rattle.std.specs.List.{before_first, after_first}
use Rattle.std.specs.Str.{bytes_eq}
use Rattle.lobby_words.specs.Words.{number_or_0}
use Rattle.night_rounds.specs.declared.times.Times.{Times}
use Rattle.night_rounds.specs.declared.times.Period.{Period}

-- what stands before the first sign, all where none stands, and what stands behind it, nothing where none stands
abbrev pub front_of : ℕ → List ℕ → List ℕ
front_of sign text = before_first (λ b. b == sign) text

abbrev pub rest_of : ℕ → List ℕ → List ℕ
rest_of sign text = after_first (λ b. b == sign) text

-- `+` and the increment, where it is not 0
abbrev pub increment_text : ℕ → List ℕ
increment_text zero = []
increment_text (suc n) = codes "+" ++ decimal (suc n)

-- `300` or `300+2`
abbrev pub span_text : ℕ → ℕ → List ℕ
span_text seconds increment = decimal seconds ++ increment_text increment

-- `40/5400+30`, and `:1800+30` behind it, where there is a second period
abbrev pub moves_text : Option Period → List ℕ
moves_text None = []
moves_text (Some p) = decimal p.moves ++ codes "/"

abbrev pub second_text : Option Period → ℕ → List ℕ
second_text None increment = []
second_text (Some p) increment = codes ":" ++ span_text p.seconds increment

-- the times as the tag TimeControl has them (docs/client/TEXTS.md, "PGN")
unfoldable pub times_text : Times → List ℕ
times_text t = moves_text t.period ++ (span_text t.initial t.increment ++ second_text t.period t.increment)

-- the times that the server takes (docs/client/PROTOCOL.md, "Answers")
abbrev pub is_between : ℕ → ℕ → ℕ → Bool
is_between low high n = nat_le low n && nat_le n high

abbrev pub is_period : Option Period → Bool
is_period None = true
is_period (Some p) = is_between 1 255 p.moves && is_between 1 86400 p.seconds

abbrev pub are_taken : Times → Bool
are_taken t = is_between 1 86400 t.initial && nat_le t.increment 60 && is_period t.period

-- the times of which a text may be that of, where it is that of any
abbrev pub plain_times : List ℕ → Times
plain_times text = record {
  initial = number_or_0 (front_of 43 text);
  increment = number_or_0 (rest_of 43 text);
  period = None;
}

-- of what stands before the `/`, between it and the `:`, and behind this
abbrev pub long_times : List ℕ → List ℕ → List ℕ → Times
long_times moves first second = record {
  initial = number_or_0 (front_of 43 first);
  increment = number_or_0 (rest_of 43 first);
  period = Some (record { moves = number_or_0 moves; seconds = number_or_0 (front_of 43 second) });
}

abbrev pub is_empty : List ℕ → Bool
is_empty [] = true
is_empty (b ∷ bs) = false

unfoldable pub likely_times : List ℕ → Times
likely_times text =
    if is_empty (rest_of 47 text) then plain_times text
    else long_times (front_of 47 text) (front_of 58 (rest_of 47 text)) (rest_of 58 (rest_of 47 text))

-- the times of a text; none where it is the text of none that the server takes
unfoldable pub times_in : List ℕ → Option Times
times_in text =
    if are_taken (likely_times text) && bytes_eq (times_text (likely_times text)) text then Some
    (likely_times text) else None
