use Rattle.std.specs.Prelude.{◌≡◌, ◌⊎◌, Option, None}
use Rattle.chess_bits.specs.declared.men.Colour.{Colour}
use Rattle.chess_bits.specs.declared.men.Kind.{Kind}
use Rattle.chess_bits.specs.declared.men.Kind.TheVariants.{Pawn, Knight, Bishop, Rook, Queen, King}
use Rattle.chess_bits.specs.Square.{Square, IsOnBoard}
use Rattle.chess_board.specs.declared.castling.Wing.TheVariants as wing
use Rattle.chess_board.specs.declared.moves.Move.{Move}
use Rattle.chess_board.specs.Position.{Position, IsInCheck}
use Rattle.chess_board.specs.Next.{placement_after}
use Rattle.chess_board.specs.Legal.{IsPromotion, Advances, AdvancesTwo, PawnTakes, TakesEnPassant, IsPieceMove, Castles}

-- A candidate in two parts: the way that the man goes, and what it becomes.

-- the move from a square to another, without a promotion
abbrev pub plain : Square → Square → Move
plain from to = record { from = from; to = to; promotion = None }

-- A man of the kind may go from a square to another, before it is asked what a pawn becomes and whether the own king is
-- safe (FIDE articles 3.1 to 3.8).
abbrev pub GoesTo : Position → Kind → Square → Square → Type 0
GoesTo p Pawn from to =
    Advances p (plain from to) ⊎ AdvancesTwo p (plain from to) ⊎ PawnTakes p (plain from to) ⊎
    TakesEnPassant p (plain from to)
GoesTo p Knight from to = IsPieceMove p (plain from to) Knight
GoesTo p Bishop from to = IsPieceMove p (plain from to) Bishop
GoesTo p Rook from to = IsPieceMove p (plain from to) Rook
GoesTo p Queen from to = IsPieceMove p (plain from to) Queen
GoesTo p King from to =
    IsPieceMove p (plain from to) King ⊎ Castles p (plain from to) wing.King ⊎ Castles p (plain from to) wing.Queen

-- what a man of the kind that reaches a square may have as its promotion (FIDE article 3.7.3.3)
abbrev pub Becomes : Colour → Kind → Square → Option Kind → Type 0
Becomes side Pawn to promotion = IsPromotion side to promotion
Becomes side Knight to promotion = promotion ≡ None
Becomes side Bishop to promotion = promotion ≡ None
Becomes side Rook to promotion = promotion ≡ None
Becomes side Queen to promotion = promotion ≡ None
Becomes side King to promotion = promotion ≡ None

-- The own king is not attacked once a man has gone so. What a pawn becomes does not matter to it.
abbrev pub LeavesKingSafe : Position → Square → Square → Type 0
LeavesKingSafe p from to = ¬ IsInCheck (placement_after p (plain from to)) p.side

-- a man of the kind goes somewhere so that its king is safe
abbrev pub HasSafeTarget : Position → Kind → Square → Type 0
HasSafeTarget p kind from = (to : Square) × IsOnBoard to × GoesTo p kind from to × LeavesKingSafe p from to

-- a man of the kind goes from a square to another, and its king is safe
abbrev pub GoesSafely : Position → Kind → Square → Square → Type 0
GoesSafely p kind from to = GoesTo p kind from to × LeavesKingSafe p from to

-- neither a pawn nor the king
abbrev pub IsPiece : Kind → Type 0
IsPiece Pawn = ⊥
IsPiece Knight = Unit {0}
IsPiece Bishop = Unit {0}
IsPiece Rook = Unit {0}
IsPiece Queen = Unit {0}
IsPiece King = ⊥
