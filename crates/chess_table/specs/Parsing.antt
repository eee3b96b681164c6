-- The one thing that the text of a command tells.
use Rattle.std.specs.Prelude.{ℕ, ◌≡◌, List, Option}
use Rattle.chess_board.specs.declared.moves.Move.{Move}
use Rattle.chess_board.specs.Position.{Position}
use Rattle.chess_entry.specs.declared.commands.Act.{Act}
use Rattle.chess_entry.specs.State.{GameState, TableState}
use Rattle.chess_entry.specs.Parsed.{Parsed, IsStartParsed, IsMoveParsed}
use Rattle.chess_entry.specs.Verdict.{IsParsed}

-- the start, or that there is none
pub record IsTheStart (text : Option (List ℕ)) (start : Option Position) : Type 0 where
  pub told : IsStartParsed text start
  pub one : (other : Option Position) → IsStartParsed text other → other ≡ start

-- the move, or that there is none
pub record IsTheMove (game : Option GameState) (text : Option (List ℕ)) (move : Option Move) : Type 0 where
  pub told : IsMoveParsed game text move
  pub one : (other : Option Move) → IsMoveParsed game text other → other ≡ move

-- what an act's text tells on a table
pub record IsTheParsed (table : TableState) (act : Act) (parsed : Parsed) : Type 0 where
  pub is : IsParsed table act parsed
  pub one : (other : Parsed) → IsParsed table act other → other ≡ parsed
