-- How games end, by their lines of positions.
use Rattle.std.specs.Prelude.{ℕ, Bool, true, false, nat_le, if◌then◌else◌, List, [], ◌++◌, count_by, Option, Some, None}
use Rattle.std.specs.List.{flat_map}
use Rattle.chess_bits.specs.declared.men.Colour.{Colour}
use Rattle.chess_bits.specs.Man.{other}
use Rattle.chess_board.specs.declared.moves.Move.{Move}
use Rattle.chess_board.specs.Position.{Position, IsValid}
use Rattle.chess_board.specs.Legal.{EachOf}
use Rattle.chess_board.specs.Line.{positions_of}
use Rattle.chess_repeat.specs.Key.{key_of}
use Rattle.chess_repeat.specs.History.{is_key}
use Rattle.chess_repeat.specs.SamePosition.{IsTimes}
use Rattle.chess_repeat.specs.QuietRun.{quiet_run}
use Rattle.chess_end.specs.declared.ending.GameResult.{GameResult}
use Rattle.chess_end.specs.declared.ending.GameResult.TheVariants as results
use Rattle.chess_end.specs.declared.ending.Article.{Article}
use Rattle.chess_end.specs.declared.ending.Article.TheVariants as articles
use Rattle.chess_end.specs.declared.ending.Ending.{Ending}
use Rattle.chess_end.specs.Ending.{won_by, IsRunning, IsEnding, IsFlagResult}
use Rattle.chess_end.specs.Computing.{is_checkmate, is_stalemate, is_listed_dead, has_king_alone}
use Rattle.rec_codec.specs.declared.record.Event.{Event}
use Rattle.rec_codec.specs.declared.record.Event.TheVariants as event
use Rattle.rec_codec.specs.declared.record.Entry.{Entry}
use Rattle.chess_entry.specs.State.{position_after}
use Rattle.chess_entry.specs.Story.{Placed, each_placed, first_given, moves_told, move_told, stated}

-- How many members of a list are the same position as this one (FIDE article 9.2.3): those with its key, which are
-- exactly these, by `LawOfTimes`.
abbrev pub times : Position → List Position → ℕ
times p list = count_by (λ q. is_key (key_of q) (key_of p)) list

-- In lists of valid positions `times` counts the members that are the same position.
abbrev pub LawOfTimes : Type 0
LawOfTimes = (p : Position) (list : List Position) → IsValid p → EachOf IsValid list → IsTimes p list (times p list)

abbrev pub ending : GameResult → Article → Ending
ending result article = record { result = result; article = article }

-- The ending of a line after a move, by its last position and the whole line: the first that applies of checkmate (FIDE
-- article 5.1.1), stalemate (5.2.1), listed dead material (5.2.2), the fifth occurrence (9.6.1) and 75 moves of each
-- side without a capture or a pawn move (9.6.2).
abbrev pub ending_of_line : Position → List Position → Option Ending
ending_of_line p line =
    if is_checkmate p then Some (ending (won_by (other p.side)) articles.A511)
    else if is_stalemate p then Some (ending results.Draw articles.A521)
    else if is_listed_dead p.placement then Some (ending results.Draw articles.A522)
    else if nat_le 5 (times p line) then Some (ending results.Draw articles.A961)
    else if nat_le 150 (quiet_run line) then Some (ending results.Draw articles.A962)
    else None

-- The flag of the side to move has fallen: drawn just where its opponent has the king alone (FIDE article 6.9, in our
-- reduction of it).
abbrev pub flag_result : Position → GameResult
flag_result p = if has_king_alone p.placement (other p.side) then results.Draw else won_by (other p.side)

-- what an ending after a move is, or that the game goes on, where the position has come n times and the run without a
-- capture or a pawn move is of q moves
abbrev pub IsEndingOrNone : Position → ℕ → ℕ → Option Ending → Type 0
IsEndingOrNone p n q None = IsRunning p n q
IsEndingOrNone p n q (Some e) = IsEnding p n q e

-- The ending of a line is that of the FIDE articles, for how often its last position has come and its quiet run; that
-- of a fallen flag is that of article 6.9.
pub record LawOfEndings : Type 0 where
  pub line : (p : Position) (line : List Position) →
      IsEndingOrNone p (times p line) (quiet_run line) (ending_of_line p line)
  pub flag : (p : Position) → IsFlagResult p.placement p.side (flag_result p)

-- that of the moves from a start, of which there is one at least
abbrev pub ending_after : Position → List Move → Option Ending
ending_after start moves = ending_of_line (position_after start moves) (positions_of start moves)

-- A claim for the last position of the moves from a start is correct: that position has come at least three times (FIDE
-- article 9.2), or, where the claim is by the fifty-move rule, at least 100 moves have gone without a capture or a pawn
-- move (9.3).
abbrev pub is_granted : Bool → Position → List Move → Bool
is_granted true start moves = nat_le 100 (quiet_run (positions_of start moves))
is_granted false start moves = nat_le 3 (times (position_after start moves) (positions_of start moves))

abbrev pub claimed_article : Bool → Article
claimed_article true = articles.A93
claimed_article false = articles.A92

-- the draw of a correct claim
abbrev pub claimed_draw : Bool → Ending
claimed_draw fifty = ending results.Draw (claimed_article fifty)

-- agreement (FIDE article 5.2.3)
abbrev pub agreed : Ending
agreed = ending results.Draw articles.A523

-- a resignation, which always loses (FIDE article 5.1.2; that it never draws is our own choice)
abbrev pub resigned : Colour → Ending
resigned by = ending (won_by (other by)) articles.A512

-- the ending where the flag of the side to move has fallen
abbrev pub flag_fallen : Position → Ending
flag_fallen p = ending (flag_result p) articles.A69

-- ---- the entries of one game

-- an entry is a correct claim, judged on the line before it with its stated move added
abbrev pub is_correct_event : Position → List Move → Event → Bool
is_correct_event start before (event.Claim claim) = is_granted claim.fifty start (before ++ stated claim.mv)
is_correct_event start before _ = false

abbrev pub is_correct : Position → Placed → Bool
is_correct start at = is_correct_event start (moves_told at.before) at.entry.event

-- The move that an entry makes: a move entry's, and that of a wrong claim with a move.
abbrev pub move_made : Position → Placed → List Move
move_made start at = if is_correct start at then [] else move_told at.entry.event

abbrev pub moves_made : Position → List Entry → List Move
moves_made start entries = flat_map (move_made start) (each_placed entries)

-- the ending of a line by a move, if one was made
abbrev pub ending_with : Position → List Move → Option Move → Option Ending
ending_with start before None = None
ending_with start before (Some m) = ending_after start (before ++ stated (Some m))

-- the ending that an entry gives
abbrev pub ending_by_event : Position → List Move → Event → Option Ending
ending_by_event start before (event.Move made) = ending_with start before (Some made.mv)
ending_by_event start before (event.Accept by) = Some agreed
ending_by_event start before (event.Resign by) = Some (resigned by)
ending_by_event start before (event.Claim claim) =
    if is_granted claim.fifty start (before ++ stated claim.mv) then Some (claimed_draw claim.fifty)
    else ending_with start before claim.mv
ending_by_event start before event.Fallen = Some (flag_fallen (position_after start before))
ending_by_event start before _ = None

abbrev pub ending_by : Position → Placed → Option Ending
ending_by start at = ending_by_event start (moves_told at.before) at.entry.event

-- the ending of a game: the first that an entry of it gives
abbrev pub ending_in : Position → List Entry → Option Ending
ending_in start entries = first_given (ending_by start) (each_placed entries)
