use Rattle.std.specs.Prelude.{ℕ, ◌+◌, ◌==◌, Bool, true, ◌||◌, if◌then◌else◌, List, reverse, Option, Some, None}
use Rattle.std.specs.Prelude.{slice_index, option_and_then, unwrap_or}
use Rattle.std.specs.Option.{option_map}
use Rattle.chess_bits.specs.declared.men.Colour.{Colour}
use Rattle.chess_bits.specs.declared.men.Kind.{Kind}
use Rattle.chess_bits.specs.declared.men.Kind.TheVariants.{Pawn, Knight, Bishop, Rook, Queen, King}
use Rattle.chess_bits.specs.Square.{Square}
use Rattle.chess_board.specs.declared.castling.Wing.TheVariants as wing
use Rattle.chess_board.specs.declared.moves.Move.{Move}
use Rattle.chess_board.specs.Next.{castled_king}
use Rattle.chess_notation.specs.Name.{square_named}
use Rattle.chess_san.specs.declared.parsing.Asked.{Asked}
use Rattle.chess_san.specs.declared.parsing.Arrival.{Arrival}

-- What a text asks for, read from its two ends. No public contract speaks of it: it is a guess that no SAN is missed
-- by, and the text is then compared with the SAN of the move that is found.

-- the piece that a capital letter names
unfoldable pub piece_named : ℕ → Option Kind
piece_named letter =
    if letter == 78 then Some Knight
    else if letter == 66 then Some Bishop
    else if letter == 82 then Some Rook
    else if letter == 81 then Some Queen
    else if letter == 75 then Some King
    else None

-- The rest is read from the end, so `text` is the text backward. How many bytes `+` or `#` takes:
unfoldable pub suffix_len : List ℕ → ℕ
suffix_len text = if (slice_index text 0 == 43) || (slice_index text 0 == 35) then 1 else 0

abbrev pub arrived : Option Kind → Square → Arrival
arrived promotion to = record { to = to; promotion = promotion }

-- the square reached, before `=` and a letter or without them
unfoldable pub promoted_arrival : List ℕ → ℕ → Option Arrival
promoted_arrival text skip = option_and_then
    (λ kind. option_map (arrived (Some kind)) (square_named (slice_index text (skip + 3))
    (slice_index text (skip + 2))))
    (piece_named (slice_index text skip))

unfoldable pub plain_arrival : List ℕ → ℕ → Option Arrival
plain_arrival text skip =
    option_map (arrived None) (square_named (slice_index text (skip + 1)) (slice_index text skip))

unfoldable pub arrival_of : List ℕ → Option Arrival
arrival_of text =
    if slice_index text (suffix_len text + 1) == 61
    then promoted_arrival text (suffix_len text)
    else plain_arrival text (suffix_len text)

-- `O-O-O` has a stroke where `O-O` has ended
unfoldable pub asked_castling : Colour → List ℕ → Asked
asked_castling side text = record {
  kind = King;
  to = castled_king side (if slice_index text 3 == 45 then wing.Queen else wing.King);
  promotion = None;
}

abbrev pub asked_by : Kind → Arrival → Asked
asked_by kind end = record { kind = kind; to = end.to; promotion = end.promotion }

unfoldable pub asked_of : Colour → List ℕ → Option Asked
asked_of side text =
    if slice_index text 0 == 79
    then Some (asked_castling side text)
    else option_map (asked_by (unwrap_or (piece_named (slice_index text 0)) Pawn)) (arrival_of (reverse text))

-- The second byte of a piece's text: `x`, or what is told of the square left, or the file of the square reached.
abbrev pub is_second : ℕ → Move → Bool
is_second second m =
    (second == 120) || (second == 96 + m.from.file) || (second == 48 + m.from.rank) || (second == 96 + m.to.file)

-- whether a text's beginning allows the square left
unfoldable pub may_leave : List ℕ → Kind → Move → Bool
may_leave text Pawn m = slice_index text 0 == 96 + m.from.file
may_leave text Knight m = is_second (slice_index text 1) m
may_leave text Bishop m = is_second (slice_index text 1) m
may_leave text Rook m = is_second (slice_index text 1) m
may_leave text Queen m = is_second (slice_index text 1) m
may_leave text King m = true
