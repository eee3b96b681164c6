use Rattle.std.specs.Prelude.{ℕ, ◌≡◌, ◌+◌, Bool, true, false, List, length, flat_map, Some}
use Rattle.chess_bits.specs.declared.men.Kind.{Kind}
use Rattle.chess_bits.specs.declared.men.Kind.TheVariants.{Pawn}
use Rattle.chess_bits.specs.Square.{Square}
use Rattle.chess_bits.specs.Table.{has, members}
use Rattle.chess_bits.specs.Attack.{pawn_attacks, Reaches}
use Rattle.chess_board.specs.Position.{Position, man_at}
use Rattle.chess_board.specs.Legal.{HoldsColour}
use Rattle.chess_board.specs.Computing.{legal_moves_of}
use Rattle.chess_moves.specs.Listing.{legal_from}

-- Legal moves, counted for sets of men.

-- how many legal moves the men on a set of squares have
abbrev pub moves_of : Position → List Bool → ℕ
moves_of p men = length (flat_map (legal_from p) (members men))

-- A man of the side to move and of the kind that no slider pins, and no pawn that could take en passant: where it may
-- go, it goes safely if that ends every check.
pub record IsFree (p : Position) (pinned : List Bool) (kind : Kind) (s : Square) : Type 0 where
  pub own : man_at p.placement s ≡ Some (p.side, kind)
  pub unpinned : has pinned s ≡ false
  pub passes_none : (t : Square) → kind ≡ Pawn → p.target ≡ Some t → ¬ Reaches (pawn_attacks p.side) s t

-- each square of a set has such a man
abbrev pub HasFree : Position → List Bool → Kind → List Bool → Type 0
HasFree p pinned kind men = (s : Square) → has men s ≡ true → IsFree p pinned kind s

-- squares of a set, each with such a man
pub record AreFree (p : Position) (pinned : List Bool) (kind : Kind) (left men : List Bool) : Type 0 where
  pub whole : length men ≡ 64
  pub within : (s : Square) → has men s ≡ true → has left s ≡ true
  pub free : HasFree p pinned kind men

-- own men are left to be counted, and with their moves the count is that of all moves
pub record IsTally (p : Position) (count : ℕ) (left : List Bool) : Type 0 where
  pub whole : length left ≡ 64
  pub own : (s : Square) → has left s ≡ true → HoldsColour p s p.side
  pub sum : count + moves_of p left ≡ length (legal_moves_of p)
