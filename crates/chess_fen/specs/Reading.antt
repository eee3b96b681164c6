use Rattle.std.specs.Prelude.{ℕ, ◌≡◌, ◌≢◌, ◌≤◌, List, [], ◌∷◌, length, Option, Some, decimal, EachIndex, slice_index}
use Rattle.std.specs.List.{join_with_byte}
use Rattle.chess_bits.specs.declared.men.Colour.{Colour}
use Rattle.chess_bits.specs.Square.{Square, IsOnBoard}
use Rattle.chess_board.specs.Position.{Position, Placement, Rights, HasCounters}
use Rattle.chess_board.specs.Parts.{IsFirstBroken}
use Rattle.chess_fen.specs.declared.fields.FenError.{FenError}
use Rattle.chess_fen.specs.declared.fields.FenError.TheVariants as faults
use Rattle.chess_notation.specs.Fen.{IsPlacementText, IsFenOf, side_letter, rights_text, target_text}
use Rattle.chess_notation.specs.Letters.{space}

-- a text that is not empty and has no space
pub record IsFenField (text : List ℕ) : Type 0 where
  pub filled : text ≢ []
  pub unspaced : EachIndex text (λ i. slice_index text i ≢ space)

-- the texts of the six fields (PGN Standard, section 16.1.3)
pub record FenFields : Type 0 where
  pub placement : List ℕ
  pub side : List ℕ
  pub castling : List ℕ
  pub target : List ℕ
  pub halfmove : List ℕ
  pub fullmove : List ℕ

abbrev pub fields_of : List ℕ → List ℕ → List ℕ → List ℕ → List ℕ → List ℕ → FenFields
fields_of placement side castling target halfmove fullmove = record {
  placement = placement;
  side = side;
  castling = castling;
  target = target;
  halfmove = halfmove;
  fullmove = fullmove;
}

-- A text is six fields that are not empty, with one space between each two.
pub record HasFields (text : List ℕ) (f : FenFields) : Type 0 where
  pub placement : IsFenField f.placement
  pub side : IsFenField f.side
  pub castling : IsFenField f.castling
  pub target : IsFenField f.target
  pub halfmove : IsFenField f.halfmove
  pub fullmove : IsFenField f.fullmove
  pub joined : text ≡ join_with_byte space (f.placement ∷ f.side ∷ f.castling ∷ f.target ∷ f.halfmove ∷ f.fullmove ∷ [])

-- What a field may say. The placement of the men on the 64 squares:
pub record TellsPlacement (text : List ℕ) (placement : Placement) : Type 0 where
  pub whole : length placement ≡ 64
  pub spelled : IsPlacementText text placement

-- the side to move:
abbrev pub TellsSide : List ℕ → Colour → Type 0
TellsSide text side = text ≡ side_letter side ∷ []

-- the castling rights, letters of KQkq in that order:
abbrev pub TellsRights : List ℕ → Rights → Type 0
TellsRights text rights = text ≡ rights_text rights

-- a target on the board, or none:
pub record TellsTarget (text : List ℕ) (target : Option Square) : Type 0 where
  pub on_board : (s : Square) → target ≡ Some s → IsOnBoard s
  pub spelled : text ≡ target_text target

-- a number from a least one up to 65,535, without leading zeros:
pub record TellsNumber (least : ℕ) (text : List ℕ) (number : ℕ) : Type 0 where
  pub from : least ≤ number
  pub to : number ≤ 65535
  pub spelled : text ≡ decimal number

-- The fields say something.
abbrev pub HasPlacement : FenFields → Type 0
HasPlacement f = (placement : Placement) × TellsPlacement f.placement placement

abbrev pub HasSide : FenFields → Type 0
HasSide f = (side : Colour) × TellsSide f.side side

abbrev pub HasRights : FenFields → Type 0
HasRights f = (rights : Rights) × TellsRights f.castling rights

abbrev pub HasTarget : FenFields → Type 0
HasTarget f = (target : Option Square) × TellsTarget f.target target

abbrev pub HasHalfmove : FenFields → Type 0
HasHalfmove f = (number : ℕ) × TellsNumber 0 f.halfmove number

abbrev pub HasFullmove : FenFields → Type 0
HasFullmove f = (number : ℕ) × TellsNumber 1 f.fullmove number

-- a target, if there is one, is a square of the board
abbrev pub IsTargetOnBoard : Option Square → Type 0
IsTargetOnBoard target = (s : Square) → target ≡ Some s → IsOnBoard s

-- What is wrong with a text that is no FEN of a valid position: the first fault in the order of the fields. A text
-- whose fields all say something is the FEN of a position, which breaks a condition of a valid one.
abbrev pub IsFenFault : List ℕ → FenError → Type 0
IsFenFault text faults.Shape = (f : FenFields) → ¬ HasFields text f
IsFenFault text faults.Placement = (f : FenFields) × HasFields text f × ¬ HasPlacement f
IsFenFault text faults.Side = (f : FenFields) × HasFields text f × HasPlacement f × ¬ HasSide f
IsFenFault text faults.Castling = (f : FenFields) × HasFields text f × HasPlacement f × HasSide f × ¬ HasRights f
IsFenFault text faults.Target = (f : FenFields) × HasFields text f × HasPlacement f × HasSide f × HasRights f ×
    ¬ HasTarget f
IsFenFault text faults.Counter = (f : FenFields) × HasFields text f × HasPlacement f × HasSide f × HasRights f ×
    HasTarget f × ¬ (HasHalfmove f × HasFullmove f)
IsFenFault text (faults.Board broken) = (p : Position) × (length p.placement ≡ 64) × HasCounters p × IsFenOf text p ×
    IsFirstBroken p broken × IsTargetOnBoard p.target
