-- What stands in a game: offers of a draw, and the claim of this turn.
use Rattle.std.specs.Prelude.{Bool, ◌&&◌, not, List, is_none}
use Rattle.std.specs.List.{list_any, after_last}
use Rattle.chess_bits.specs.declared.men.Colour.{Colour}
use Rattle.chess_bits.specs.Man.{other}
use Rattle.chess_board.specs.Position.{Position}
use Rattle.rec_codec.specs.declared.record.Entry.{Entry}
use Rattle.chess_entry.specs.Story.{is_claim, tells_move, offers_for, answers_for}
use Rattle.chess_entry.specs.Outcome.{ending_in}

abbrev pub is_running : Position → List Entry → Bool
is_running start entries = is_none (ending_in start entries)

-- A side's offer stands where the game runs, the side has made an offer or a wrong claim, and since the last of these
-- the opponent has neither declined nor completed a move (FIDE article 9.1).
abbrev pub offers_in : Position → List Entry → Colour → Bool
offers_in start entries side =
    is_running start entries
    && (list_any (λ e. offers_for side e.event) entries
    && not (list_any (λ e. answers_for start.side (other side) e.event)
    (after_last (λ e. offers_for side e.event) entries)))

-- A side has claimed in this turn where the game runs and a claim came since the last completed move.
abbrev pub claimed_in : Position → List Entry → Bool
claimed_in start entries =
    is_running start entries && list_any (λ e. is_claim e.event) (after_last (λ e. tells_move e.event) entries)
