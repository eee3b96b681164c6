use Rattle.std.specs.Prelude.{◌≡◌, ℕ, List, [], ◌++◌, Option, Some, None, codes}
use Rattle.chess_bits.specs.declared.men.Kind.{Kind}
use Rattle.chess_bits.specs.declared.men.Kind.TheVariants.{Pawn, Knight, Bishop, Rook, Queen, King}
use Rattle.chess_bits.specs.Square.{IsOnBoard}
use Rattle.chess_board.specs.declared.moves.Move.{Move}
use Rattle.chess_notation.specs.Name.{square_name}

-- The small letter of what a pawn becomes, q, r, b or n. It cannot become a king or stay a pawn (FIDE article 3.7.3.3).
abbrev pub IsPromotionText : List ℕ → Option Kind → Type 0
IsPromotionText text None = text ≡ []
IsPromotionText text (Some Queen) = text ≡ codes "q"
IsPromotionText text (Some Rook) = text ≡ codes "r"
IsPromotionText text (Some Bishop) = text ≡ codes "b"
IsPromotionText text (Some Knight) = text ≡ codes "n"
IsPromotionText text (Some King) = ⊥
IsPromotionText text (Some Pawn) = ⊥

-- The coordinate text of a move: the name of the square left, that of the square reached, and what a pawn becomes.
-- Castling is the king's move.
pub record IsCoordinateOf (text : List ℕ) (m : Move) : Type 0 where
  pub letter : List ℕ
  pub from_on_board : IsOnBoard m.from
  pub to_on_board : IsOnBoard m.to
  pub promotion : IsPromotionText letter m.promotion
  pub joined : text ≡ square_name m.from ++ (square_name m.to ++ letter)

-- a move from and to the squares of two names, with this promotion
pub record GoesBetween (from to : List ℕ) (promotion : Option Kind) (m : Move) : Type 0 where
  pub from_on_board : IsOnBoard m.from
  pub to_on_board : IsOnBoard m.to
  pub from_name : from ≡ square_name m.from
  pub to_name : to ≡ square_name m.to
  pub became : promotion ≡ m.promotion
