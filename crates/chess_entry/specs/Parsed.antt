-- What the text of a command tells: the position that a game starts from, or a move.
use Rattle.std.specs.Prelude.{ℕ, ◌≡◌, List, Option, Some, None}
use Rattle.chess_board.specs.declared.moves.Move.{Move}
use Rattle.chess_board.specs.Position.{Position, IsValid}
use Rattle.chess_board.specs.Initial.{initial}
use Rattle.chess_notation.specs.Naming.{Names}
use Rattle.chess_notation.specs.Fen.{IsFenOf}
use Rattle.arrayvec.specs.ArrayString.{ArrayString}
use Rattle.chess_entry.specs.State.{GameState, position_of}

-- a start and a move that a command tells, where it tells one
pub record Parsed : Type 0 where
  pub start : Option Position
  pub move : Option Move

abbrev pub parsed : Option Position → Option Move → Parsed
parsed start move = record { start = start; move = move }

-- the valid position of which a text is the FEN; without a text the initial position
abbrev pub IsStartParsed : Option (List ℕ) → Option Position → Type 0
IsStartParsed None start = start ≡ Some initial
IsStartParsed (Some text) (Some p) = IsValid p × IsFenOf text p
IsStartParsed (Some text) None = (p : Position) → IsValid p → ¬ IsFenOf text p

-- the legal move that a text names in a game's position
abbrev pub IsMoveParsed : Option GameState → Option (List ℕ) → Option Move → Type 0
IsMoveParsed None text move = move ≡ None
IsMoveParsed (Some game) None move = move ≡ None
IsMoveParsed (Some game) (Some text) (Some m) = Names (position_of game) text m
IsMoveParsed (Some game) (Some text) None = (m : Move) → ¬ Names (position_of game) text m

abbrev pub bytes_of : Option ArrayString → Option (List ℕ)
bytes_of None = None
bytes_of (Some text) = Some text.bytes
