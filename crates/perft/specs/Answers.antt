-- What is answered for a depth and a FEN.
use Rattle.std.specs.Prelude.{ℕ, ◌≡◌, ◌≤◌, List, ◌∷◌, ◌++◌, codes, decimal}
use Rattle.chess_board.specs.declared.parts.BadBoard.{BadBoard}
use Rattle.chess_board.specs.declared.parts.BadBoard.TheVariants as broken
use Rattle.chess_board.specs.Position.{Position, IsValid}
use Rattle.chess_fen.specs.declared.fields.FenError.{FenError}
use Rattle.chess_fen.specs.declared.fields.FenError.TheVariants as faults
use Rattle.chess_notation.specs.Fen.{IsFenOf}
use Rattle.chess_fen.specs.Reading.{IsFenFault}
use Rattle.perft.specs.declared.answers.Fault.{Fault}
use Rattle.perft.specs.declared.answers.Fault.TheVariants.{Line, Fen}
use Rattle.perft.specs.Lines.{IsCount}

-- the count of the legal lines of so many moves from the valid position of which the text is the FEN
pub record IsCountFrom (text : List ℕ) (depth count : ℕ) : Type 0 where
  pub position : Position
  pub valid : IsValid position
  pub fen : IsFenOf text position
  pub counted : IsCount position depth count

-- why there is no count
abbrev pub IsFault : List ℕ → Fault → Type 0
IsFault fen (Fen fault) = IsFenFault fen fault
IsFault fen Line = ⊥

-- the line is a depth up to 255 in decimal, without leading zeros, a space and this text
pub record Asks (line : List ℕ) (depth : ℕ) (fen : List ℕ) : Type 0 where
  pub short : depth ≤ 255
  pub joined : line ≡ decimal depth ++ (32 ∷ fen)

-- the count that a line asks for
pub record IsAnswer (line : List ℕ) (count : ℕ) : Type 0 where
  pub depth : ℕ
  pub fen : List ℕ
  pub asked : Asks line depth fen
  pub counted : IsCountFrom fen depth count

-- what a line asks for has this fault
pub record HasFault (line : List ℕ) (fault : Fault) : Type 0 where
  pub depth : ℕ
  pub fen : List ℕ
  pub asked : Asks line depth fen
  pub told : IsFault fen fault

-- why a line has no answer
abbrev pub IsRefusal : List ℕ → Fault → Type 0
IsRefusal line Line = (depth : ℕ) (fen : List ℕ) → ¬ Asks line depth fen
IsRefusal line (Fen fault) = HasFault line (Fen fault)

-- The name that is printed for a fault: that of its innermost part.
abbrev pub board_fault_name : BadBoard → List ℕ
board_fault_name broken.Kings = codes "Kings"
board_fault_name broken.Pieces = codes "Pieces"
board_fault_name broken.Pawns = codes "Pawns"
board_fault_name broken.Check = codes "Check"
board_fault_name broken.Rights = codes "Rights"
board_fault_name broken.Target = codes "Target"
board_fault_name broken.Counter = codes "Counter"

abbrev pub fen_fault_name : FenError → List ℕ
fen_fault_name faults.Shape = codes "Shape"
fen_fault_name faults.Placement = codes "Placement"
fen_fault_name faults.Side = codes "Side"
fen_fault_name faults.Castling = codes "Castling"
fen_fault_name faults.Target = codes "Target"
fen_fault_name faults.Counter = codes "Counter"
fen_fault_name (faults.Board fault) = board_fault_name fault

abbrev pub fault_name : Fault → List ℕ
fault_name Line = codes "Line"
fault_name (Fen fault) = fen_fault_name fault
