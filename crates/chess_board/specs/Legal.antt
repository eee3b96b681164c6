use Rattle.std.specs.Prelude.{ℕ, ◌≡◌, ◌≢◌, ◌⊎◌, true, List, [], ◌∷◌, Option, Some, None}
use Rattle.chess_bits.specs.declared.men.Colour.{Colour}
use Rattle.chess_bits.specs.declared.men.Colour.TheVariants.{White, Black}
use Rattle.chess_bits.specs.declared.men.Kind.{Kind}
use Rattle.chess_bits.specs.declared.men.Kind.TheVariants.{Pawn, Knight, Bishop, Rook, Queen, King}
use Rattle.chess_bits.specs.Square.{Square, IsOnBoard}
use Rattle.chess_bits.specs.Man.{other}
use Rattle.chess_bits.specs.Attack.{along, forward, pawn_attacks, Reaches, Attacks}
use Rattle.chess_board.specs.declared.castling.Wing.{Wing}
use Rattle.chess_board.specs.declared.castling.Wing.TheVariants as wing
use Rattle.chess_board.specs.declared.moves.Move.{Move}
use Rattle.chess_board.specs.Position.{Position, has_right, man_at, occupied_of, home_rank, king_home, IsAttacked}
use Rattle.chess_board.specs.Position.{IsInCheck}
use Rattle.chess_board.specs.Next.{next, castled_king, castled_rook}

-- the last rank that a side's pawns reach, and the rank from which they may advance two squares
abbrev pub last_rank : Colour → ℕ
last_rank side = home_rank (other side)

abbrev pub pawn_rank : Colour → ℕ
pawn_rank White = 2
pawn_rank Black = 7

-- what a pawn may become (FIDE article 3.7.3.3)
abbrev pub IsPromotionKind : Kind → Type 0
IsPromotionKind kind = (kind ≡ Queen) ⊎ (kind ≡ Rook) ⊎ (kind ≡ Bishop) ⊎ (kind ≡ Knight)

-- A pawn that reaches the last rank becomes another piece, and a move to another square has no promotion.
abbrev pub IsPromotion : Colour → Square → Option Kind → Type 0
IsPromotion side to None = to.rank ≢ last_rank side
IsPromotion side to (Some kind) = (to.rank ≡ last_rank side) × IsPromotionKind kind

-- a man of the colour stands on the square
abbrev pub HoldsColour : Position → Square → Colour → Type 0
HoldsColour p s side = (kind : Kind) × (man_at p.placement s ≡ Some (side, kind))

-- one square forward, to an empty square (FIDE article 3.7.1)
pub record Advances (p : Position) (m : Move) : Type 0 where
  pub there : m.to ≡ along 1 (forward p.side) m.from
  pub empty : man_at p.placement m.to ≡ None

-- two squares forward from the pawn's starting rank, both empty (FIDE article 3.7.2)
pub record AdvancesTwo (p : Position) (m : Move) : Type 0 where
  pub first : m.from.rank ≡ pawn_rank p.side
  pub there : m.to ≡ along 2 (forward p.side) m.from
  pub crossed_empty : man_at p.placement (along 1 (forward p.side) m.from) ≡ None
  pub empty : man_at p.placement m.to ≡ None

-- diagonally forward, where a man of the opponent stands (FIDE article 3.7.3)
pub record PawnTakes (p : Position) (m : Move) : Type 0 where
  pub attacked : Reaches (pawn_attacks p.side) m.from m.to
  pub taken : HoldsColour p m.to (other p.side)

-- diagonally forward, to the square that a pawn has just crossed (FIDE articles 3.7.3.1 and 3.7.3.2)
pub record TakesEnPassant (p : Position) (m : Move) : Type 0 where
  pub attacked : Reaches (pawn_attacks p.side) m.from m.to
  pub crossed : p.target ≡ Some m.to

pub record IsPawnMove (p : Position) (m : Move) : Type 0 where
  pub way : Advances p m ⊎ AdvancesTwo p m ⊎ PawnTakes p m ⊎ TakesEnPassant p m
  pub promotion : IsPromotion p.side m.to m.promotion

-- to a square that the man attacks and that holds no man of its own side (FIDE articles 3.1 to 3.6 and 3.8.1)
pub record IsPieceMove (p : Position) (m : Move) (kind : Kind) : Type 0 where
  pub attacked : Attacks (occupied_of p.placement) p.side kind m.from m.to
  pub free : ¬ HoldsColour p m.to p.side
  pub no_promotion : m.promotion ≡ None

-- the squares that have to be empty between king and rook
abbrev pub between : Colour → Wing → List Square
between side wing.King = record { file = 6; rank = home_rank side } ∷ record { file = 7; rank = home_rank side } ∷ []
between side wing.Queen =
    record { file = 2; rank = home_rank side } ∷ record {
      file = 3;
      rank = home_rank side;
    } ∷ record { file = 4; rank = home_rank side } ∷ []

-- each item of a list is so
abbrev pub EachOf : {A : Type 0} → (A → Type 0) → List A → Type 0
EachOf P [] = Unit {0}
EachOf P (x ∷ xs) = P x × EachOf P xs

-- From its home two squares toward the rook of that wing, with the right, with no man between king and rook, and with
-- no attack on the square that the king leaves, crosses or reaches (FIDE articles 3.8.2 to 3.8.2.2). An attack on the
-- rook, or on the square beside a rook of the queen's wing, does not prevent it.
pub record Castles (p : Position) (m : Move) (wing : Wing) : Type 0 where
  pub right : has_right p.rights p.side wing ≡ true
  pub from : m.from ≡ king_home p.side
  pub to : m.to ≡ castled_king p.side wing
  pub empty : EachOf (λ s. man_at p.placement s ≡ None) (between p.side wing)
  pub unattacked : EachOf (λ s. ¬ IsAttacked p.placement (other p.side) s)
      (king_home p.side ∷ castled_rook p.side wing ∷ castled_king p.side wing ∷ [])
  pub no_promotion : m.promotion ≡ None

-- a move by the rules of the man's kind, before the safety of the own king is asked
abbrev pub IsMoveOf : Position → Move → Kind → Type 0
IsMoveOf p m Pawn = IsPawnMove p m
IsMoveOf p m Knight = IsPieceMove p m Knight
IsMoveOf p m Bishop = IsPieceMove p m Bishop
IsMoveOf p m Rook = IsPieceMove p m Rook
IsMoveOf p m Queen = IsPieceMove p m Queen
IsMoveOf p m King = IsPieceMove p m King ⊎ Castles p m wing.King ⊎ Castles p m wing.Queen

pub record IsCandidate (p : Position) (m : Move) : Type 0 where
  pub kind : Kind
  pub own : man_at p.placement m.from ≡ Some (p.side, kind)
  pub on_board : IsOnBoard m.to
  pub rule : IsMoveOf p m kind

-- A candidate that leaves the own king unattacked (FIDE articles 3.9.2 and 3.10.1). It is meant for valid positions, in
-- which a right has its king and rook at home, and a target has its pawn beside.
pub record IsLegal (p : Position) (m : Move) : Type 0 where
  pub candidate : IsCandidate p m
  pub safe : ¬ IsInCheck (next p m).placement p.side
