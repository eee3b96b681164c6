use Rattle.std.specs.Prelude.{List, Contains}
use Rattle.chess_bits.specs.declared.men.Colour.{Colour}
use Rattle.chess_board.specs.declared.moves.Move.{Move}
use Rattle.chess_board.specs.Position.{Position}
use Rattle.chess_board.specs.Next.{next}
use Rattle.chess_board.specs.Legal.{IsLegal}
use Rattle.chess_san.specs.Boards.{DiffersInCounters}
use Rattle.chess_mates.specs.Mates.{IsMatedBy}

-- Lists of positions that no series of legal moves leaves.

-- the list has the position, but for its counters
pub record HasLike (list : List Position) (p : Position) : Type 0 where
  pub like : Position
  pub among : Contains list like
  pub differs : DiffersInCounters like p

-- each legal move leads into the list
abbrev pub LeadsInto : List Position → Position → Type 0
LeadsInto list p = (m : Move) → IsLegal p m → HasLike list (next p m)

-- each legal move of a position leads into the list, and the side has not given checkmate there
pub record IsQuiet (side : Colour) (list : List Position) (p : Position) : Type 0 where
  pub leads : LeadsInto list p
  pub not_mated : ¬ IsMatedBy side p

-- it is so of each position of the list
abbrev pub IsClosed : Colour → List Position → Type 0
IsClosed side list = (p : Position) → Contains list p → IsQuiet side list p
