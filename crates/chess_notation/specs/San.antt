use Rattle.std.specs.Prelude.{ℕ, ◌≡◌, ◌≢◌, Bool, ◌||◌, if◌then◌else◌, List, [], ◌∷◌, ◌++◌, Option, Some, None, codes}
use Rattle.std.specs.Prelude.{is_some}
use Rattle.chess_bits.specs.declared.men.Kind.{Kind}
use Rattle.chess_bits.specs.declared.men.Kind.TheVariants.{Pawn, Knight, Bishop, Rook, Queen, King}
use Rattle.chess_bits.specs.Square.{Square}
use Rattle.chess_board.specs.declared.castling.Wing.{Wing}
use Rattle.chess_board.specs.declared.castling.Wing.TheVariants as wing
use Rattle.chess_board.specs.declared.moves.Move.{Move}
use Rattle.chess_board.specs.Position.{Position, man_at, IsInCheck}
use Rattle.chess_board.specs.Next.{next, is_en_passant, castles_to}
use Rattle.chess_board.specs.Legal.{IsLegal}
use Rattle.chess_moves.specs.Moves.{HasLegal}
use Rattle.chess_notation.specs.declared.telling.Among.{Among}
use Rattle.chess_notation.specs.declared.telling.Among.TheVariants as among
use Rattle.chess_notation.specs.declared.telling.Origin.{Origin}
use Rattle.chess_notation.specs.declared.telling.Origin.TheVariants as origin
use Rattle.chess_notation.specs.declared.telling.Threat.{Threat}
use Rattle.chess_notation.specs.declared.telling.Threat.TheVariants as threat
use Rattle.chess_notation.specs.Name.{file_letter, rank_digit, square_name, capital_of, promotion_text}

-- ---- the square left (PGN Standard, section 8.2.3.4)

-- another man of the same kind and colour could legally move to the same square
pub record IsRival (p : Position) (m rival : Move) : Type 0 where
  pub legal : IsLegal p rival
  pub same_man : man_at p.placement rival.from ≡ man_at p.placement m.from
  pub same_target : rival.to ≡ m.to
  pub elsewhere : rival.from ≢ m.from

abbrev pub IsOn : Among → Square → Square → Type 0
IsOn among.Board a b = Unit {0}
IsOn among.File a b = b.file ≡ a.file
IsOn among.Rank a b = b.rank ≡ a.rank

-- there is such a man: anywhere, on the file of the square left, or on its rank
abbrev pub HasRival : Position → Move → Among → Type 0
HasRival p m along = (rival : Move) × IsRival p m rival × IsOn along m.from rival.from

-- What tells a piece's move from those of its rivals: nothing where there is none; else the file, if no rival stands on
-- it; else the rank, if no rival stands on it; else both.
abbrev pub Disambiguates : Position → Move → Origin → Type 0
Disambiguates p m origin.Nothing = ¬ HasRival p m among.Board
Disambiguates p m origin.File = HasRival p m among.Board × ¬ HasRival p m among.File
Disambiguates p m origin.Rank = HasRival p m among.File × ¬ HasRival p m among.Rank
Disambiguates p m origin.Square = HasRival p m among.File × HasRival p m among.Rank

abbrev pub origin_text : Origin → Square → List ℕ
origin_text origin.Nothing from = []
origin_text origin.File from = file_letter from ∷ []
origin_text origin.Rank from = rank_digit from ∷ []
origin_text origin.Square from = square_name from

-- ---- a move without its suffix (PGN Standard, section 8.2.3.3)

-- A legal move takes where a man stands on the square reached, or a pawn is taken en passant.
abbrev pub is_capture : Position → Move → Bool
is_capture p m = is_some (man_at p.placement m.to) || is_en_passant p m

-- `x` for a capture
abbrev pub capture_text : Bool → List ℕ
capture_text takes = if takes then codes "x" else []

-- a pawn's capture begins with the file that it leaves
abbrev pub pawn_origin : Bool → Square → List ℕ
pawn_origin takes from = if takes then file_letter from ∷ codes "x" else []

abbrev pub pawn_text : Position → Move → List ℕ
pawn_text p m = pawn_origin (is_capture p m) m.from ++ (square_name m.to ++ promotion_text m.promotion)

abbrev pub piece_text : Position → Move → Kind → Origin → List ℕ
piece_text p m kind from =
    capital_of kind ∷ (origin_text from m.from ++ (capture_text (is_capture p m) ++ square_name m.to))

-- `O-O` and `O-O-O`
abbrev pub castling_text : Wing → List ℕ
castling_text wing.King = codes "O-O"
castling_text wing.Queen = codes "O-O-O"

-- the wing to which a king castles
abbrev pub castled_wing : Position → Move → Option Wing
castled_wing p m =
    if castles_to p m wing.King then Some wing.King
    else if castles_to p m wing.Queen then Some wing.Queen
    else None

pub record IsPieceText (p : Position) (m : Move) (kind : Kind) (text : List ℕ) : Type 0 where
  pub origin : Origin
  pub tells : Disambiguates p m origin
  pub joined : text ≡ piece_text p m kind origin

abbrev pub IsKingText : Position → Move → Option Wing → List ℕ → Type 0
IsKingText p m (Some to) text = text ≡ castling_text to
IsKingText p m None text = IsPieceText p m King text

-- the text of a move by the kind of the man that makes it; a pawn's has no more than its capture's file
abbrev pub IsManText : Position → Move → Kind → List ℕ → Type 0
IsManText p m Pawn text = text ≡ pawn_text p m
IsManText p m Knight text = IsPieceText p m Knight text
IsManText p m Bishop text = IsPieceText p m Bishop text
IsManText p m Rook text = IsPieceText p m Rook text
IsManText p m Queen text = IsPieceText p m Queen text
IsManText p m King text = IsKingText p m (castled_wing p m) text

-- the text is the SAN of a legal move without its suffix
pub record IsBody (p : Position) (m : Move) (text : List ℕ) : Type 0 where
  pub legal : IsLegal p m
  pub kind : Kind
  pub own : man_at p.placement m.from ≡ Some (p.side, kind)
  pub told : IsManText p m kind text

-- ---- check and mate (PGN Standard, section 8.2.3.5)

-- the side that is to move after the move stands in check (FIDE article 3.9.1)
abbrev pub GivesCheck : Position → Move → Type 0
GivesCheck p m = IsInCheck (next p m).placement (next p m).side

-- mate is a check against which there is no legal move (FIDE article 5.1.1)
abbrev pub Threatens : Position → Move → Threat → Type 0
Threatens p m threat.Nothing = ¬ GivesCheck p m
Threatens p m threat.Check = GivesCheck p m × HasLegal (next p m)
Threatens p m threat.Mate = GivesCheck p m × ¬ HasLegal (next p m)

abbrev pub threat_text : Threat → List ℕ
threat_text threat.Nothing = []
threat_text threat.Check = codes "+"
threat_text threat.Mate = codes "#"

-- The text is the SAN of a legal move: the move, then `+` for check or `#` for mate.
pub record IsSan (p : Position) (m : Move) (text : List ℕ) : Type 0 where
  pub body : List ℕ
  pub is_body : IsBody p m body
  pub threat : Threat
  pub threatens : Threatens p m threat
  pub joined : text ≡ body ++ threat_text threat
