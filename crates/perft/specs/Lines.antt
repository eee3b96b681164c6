-- The legal lines of so many moves from a position, and their number.
use Rattle.std.specs.Prelude.{ℕ, ◌≡◌, ◌≢◌, ◌↔◌, ◌-◌, ◌^◌, min, List, length, Contains}
use Rattle.std.specs.List.{AllPairs}
use Rattle.chess_board.specs.declared.moves.Move.{Move}
use Rattle.chess_board.specs.Position.{Position}
use Rattle.chess_board.specs.Line.{IsLegalLine}

-- exactly the legal lines of so many moves, none of them twice
pub record AreLegalLines (p : Position) (depth : ℕ) (lines : List (List Move)) : Type 0 where
  pub exact : (line : List Move) → Contains lines line ↔ (IsLegalLine p line × (length line ≡ depth))
  pub distinct : AllPairs (λ a b. a ≢ b) lines

-- how many there are
pub record IsNumberOfLines (p : Position) (depth n : ℕ) : Type 0 where
  pub lines : List (List Move)
  pub are : AreLegalLines p depth lines
  pub number : length lines ≡ n

-- that number, and 2^64 - 1 where it is greater
abbrev pub IsCount : Position → ℕ → ℕ → Type 0
IsCount p depth count = (n : ℕ) × IsNumberOfLines p depth n × (count ≡ min n (2 ^ 64 - 1))
