-- What a board keeps of its text while it changes.
use Rattle.std.specs.Prelude.{ℕ, ◌≡◌, ◌-◌, ◌≤◌, ◌<◌, ◌++◌, Bool, false, List, length, take, replicate, slice_index}
use Rattle.std.specs.Prelude.{slice_index_or}
use Rattle.chess_board.specs.Position.{Placement}
use Rattle.chess_notation.specs.Fen.{rank_of, row_text}
use Rattle.chess_notation.specs.Letters.{slash}
use Rattle.chess_fen.specs.declared.shown.RankText.{RankText}

-- a text, and strokes behind it, up to eight bytes
abbrev pub filled_up : List ℕ → List ℕ
filled_up text = take 8 (text ++ replicate 8 slash)

-- the part of a filled text that is shown
abbrev pub shown_part : RankText → List ℕ
shown_part text = take text.end text.filled.bytes

-- eight bytes, which can be cut behind the part that is shown
pub record IsFilled (text : RankText) : Type 0 where
  pub whole : length text.filled.bytes ≡ 8
  pub within : text.end ≤ 8
  pub cut : text.end < 8 → slice_index text.filled.bytes text.end ≡ slash

-- the text of a rank
pub record IsRankText (text : RankText) (placement : Placement) (rank : ℕ) : Type 0 where
  pub is : shown_part text ≡ row_text (rank_of placement rank)
  pub filled : IsFilled text

-- The text of each rank stands at the place before its number, as the places count from 0.
abbrev pub AreRankTexts : List RankText → Placement → Type 0
AreRankTexts texts placement = (rank : ℕ) (d : RankText) → 1 ≤ rank → rank ≤ 8 →
    IsRankText (slice_index_or texts (rank - 1) d) placement rank

-- A rank of which this is false has the same men in both placements.
abbrev pub TellsRanks : Placement → Placement → List Bool → Type 0
TellsRanks old new touched = (rank : ℕ) → 1 ≤ rank → rank ≤ 8 → slice_index_or touched rank false ≡ false →
    rank_of old rank ≡ rank_of new rank
