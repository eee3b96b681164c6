-- When two positions are the same (FIDE article 9.2.3), and how often a position stands in a list.
use Rattle.std.specs.Prelude.{ℕ, ◌≡◌, ◌+◌, ◌↔◌, ◌⊎◌, List, [], ◌∷◌, Some}
use Rattle.chess_bits.specs.declared.men.Kind.TheVariants.{Pawn}
use Rattle.chess_board.specs.declared.moves.Move.{Move}
use Rattle.chess_board.specs.Position.{Position, man_at}
use Rattle.chess_board.specs.Legal.{TakesEnPassant, IsLegal}

-- a legal move by which a pawn takes en passant (FIDE articles 3.7.3.1 and 3.7.3.2)
pub record IsLegalEnPassant (p : Position) (m : Move) : Type 0 where
  pub legal : IsLegal p m
  pub pawn : man_at p.placement m.from ≡ Some (p.side, Pawn)
  pub takes : TakesEnPassant p m

-- there is one
abbrev pub HasLegalEnPassant : Position → Type 0
HasLegalEnPassant p = (m : Move) × IsLegalEnPassant p m

-- The same side is to move, men of the same kind and colour stand on the same squares, the same castling rights are
-- left, and the same captures en passant are legal. A target that no pawn can legally reach does not count (our own
-- choice, where the Laws speak of pawns that could have been taken en passant), nor do the counters.
pub record IsSamePosition (p q : Position) : Type 0 where
  pub side : p.side ≡ q.side
  pub placement : p.placement ≡ q.placement
  pub rights : p.rights ≡ q.rights
  pub captures : (m : Move) → IsLegalEnPassant p m ↔ IsLegalEnPassant q m

-- exactly n members of the list are so
abbrev pub IsCount : {A : Type 0} → (A → Type 0) → List A → ℕ → Type 0
IsCount P [] n = n ≡ 0
IsCount P (x ∷ xs) n = (P x × ((rest : ℕ) × (n ≡ rest + 1) × IsCount P xs rest)) ⊎ ((¬ P x) × IsCount P xs n)

-- n members of the list are the same position
abbrev pub IsTimes : Position → List Position → ℕ → Type 0
IsTimes p list n = IsCount (IsSamePosition p) list n
