-- What a history of a game keeps, and the positions that it stands for.
use Rattle.std.specs.Prelude.{ℕ, ◌≡◌, ◌≤◌, Bool, List, length, map, cond, count_by, nat_eq, Some}
use Rattle.std.specs.Option.{unwrap_or}
use Rattle.std.specs.Map.{lookup}
use Rattle.std.specs.Cmp.Lexicographic.{pointwise}
use Rattle.chess_board.specs.Position.{Position, IsValid}
use Rattle.chess_board.specs.Legal.{EachOf}
use Rattle.chess_repeat.specs.Key.{key_of}

-- the halfmove clocks of the positions in their order, and how often each key stood
pub record HistoryState : Type 0 where
  pub clocks : List ℕ
  pub counts : List (List ℕ × ℕ)

-- whether two keys are equal
abbrev pub is_key : List ℕ → List ℕ → Bool
is_key = pointwise nat_eq

-- how often a key stood
abbrev pub count_in : List (List ℕ × ℕ) → List ℕ → ℕ
count_in counts key = unwrap_or (lookup (is_key key) counts) 0

-- a key is given a count, and all others keep theirs
abbrev pub IsGivenCount : List ℕ → List (List ℕ × ℕ) → List (List ℕ × ℕ) → ℕ → Type 0
IsGivenCount key old new n =
    (other : List ℕ) → lookup (is_key other) new ≡ cond (is_key key other) (Some n) (lookup (is_key other) old)

-- The history is that of the list of positions: it has their halfmove clocks, and counts the members with each key.
pub record IsHistoryOf (history : HistoryState) (list : List Position) : Type 0 where
  pub valid : EachOf IsValid list
  pub clocks : history.clocks ≡ map (λ p. p.halfmove) list
  pub counts : (key : List ℕ) → count_in history.counts key ≡ count_by (λ p. is_key (key_of p) key) list

-- what every history keeps true: it has 1 to 65,535 members, and counts no key more often
pub record IsBounded (clocks : List ℕ) (counts : List (List ℕ × ℕ)) : Type 0 where
  pub some : 1 ≤ length clocks
  pub most : length clocks ≤ 65535
  pub each : (key : List ℕ) → count_in counts key ≤ length clocks
