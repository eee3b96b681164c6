use Rattle.std.specs.Prelude.{◌==◌, if◌then◌else◌, List, [], ◌∷◌, filter, Some}
use Rattle.chess_bits.specs.declared.men.Colour.{Colour}
use Rattle.chess_bits.specs.declared.men.Kind.{Kind}
use Rattle.chess_bits.specs.declared.men.Kind.TheVariants.{Pawn, Knight, Bishop, Rook, Queen, King}
use Rattle.chess_bits.specs.Square.{Square}
use Rattle.chess_board.specs.declared.moves.Move.{Move}
use Rattle.chess_board.specs.Position.{Position}
use Rattle.chess_board.specs.Legal.{last_rank}
use Rattle.chess_board.specs.Computing.{is_legal, moves_from}
use Rattle.chess_moves.specs.Targets.{plain}

-- The order in which the moves are listed. No public contract speaks of it.

-- the legal moves of the man on a square
unfoldable pub legal_from : Position → Square → List Move
legal_from p from = filter (is_legal p) (moves_from from)

abbrev pub promoted : Square → Square → Kind → Move
promoted from to kind = record { from = from; to = to; promotion = Some kind }

-- what a pawn's move to the last rank can be
abbrev pub promotions : Square → Square → List Move
promotions from to =
    promoted from to Queen ∷ promoted from to Rook ∷ promoted from to Bishop ∷ promoted from to Knight ∷ []

-- the moves of a man of the kind from a square to another: four where a pawn reaches the last rank, else one
abbrev pub choices : Colour → Kind → Square → Square → List Move
choices side Pawn from to =
    if to.rank == last_rank side then promotions from to else plain from to ∷ []
choices side Knight from to = plain from to ∷ []
choices side Bishop from to = plain from to ∷ []
choices side Rook from to = plain from to ∷ []
choices side Queen from to = plain from to ∷ []
choices side King from to = plain from to ∷ []
