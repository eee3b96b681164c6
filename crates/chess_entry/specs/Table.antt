-- What holds of every table, also of one that a snapshot names, whoever wrote it; and which entries may come on it.
use Rattle.std.specs.Prelude.{◌≡◌, ◌≤◌, ◌<◌, ◌^◌, List, [], ◌∷◌, ◌++◌, length, fold, IfSome}
use Rattle.chess_board.specs.Legal.{EachOf}
use Rattle.rec_codec.specs.declared.limits.Limits.{Limits}
use Rattle.rec_codec.specs.declared.limits.Version.TheVariants.{Two}
use Rattle.rec_codec.specs.Limits.{IsInRange}
use Rattle.player_name.specs.Name.{IsName}
use Rattle.rec_codec.specs.declared.record.Entry.{Entry}
use Rattle.chess_entry.specs.declared.commands.Command.{Command}
use Rattle.chess_entry.specs.declared.verdicts.Verdict.TheVariants.{Enter}
use Rattle.chess_entry.specs.State.{GameState, TableState}
use Rattle.chess_entry.specs.Verdict.{IsVerdict}
use Rattle.chess_entry.specs.Follow.{follow}
use Rattle.chess_entry.specs.Bounds.{IsGame}

-- the table without any entry
abbrev pub empty_table : Limits → TableState
empty_table limits = record { limits = limits; games = []; moment = 0; last = 0; entries = 0 }

-- Of two games, the later one has the greater number.
abbrev pub AreRising : List GameState → Type 0
AreRising games =
    (before between rest : List GameState) (game later : GameState) →
    games ≡ before ++ game ∷ (between ++ later ∷ rest) → game.number < later.number

-- a game that may stand on a table
pub record IsOnTable (table : TableState) (shown : GameState) : Type 0 where
  pub game : IsGame table.limits.plies shown
  pub number : shown.number ≤ table.last
  pub moment : shown.moment ≤ table.moment

-- a table that there may be: its limits, moments and numbers are in range, and its games may stand on it
pub record IsTable (table : TableState) : Type 0 where
  pub limits : IsInRange Two table.limits
  pub moment : table.moment ≤ 4611686018427387903
  pub last : table.last < 2 ^ 32
  pub entries : table.entries < 2 ^ 64
  pub few : length table.games ≤ table.limits.games
  pub rising : AreRising table.games
  pub games : EachOf (IsOnTable table) table.games

-- An entry may come on a table: it is the verdict there on a command by a player with a name.
pub record IsEnteredOn (table : TableState) (e : Entry) : Type 0 where
  pub command : Command
  pub named : IfSome command.who IsName
  pub entered : IsVerdict table command (Enter e)

-- the table with entries more
abbrev pub followed : TableState → List Entry → TableState
followed table entries = fold follow table entries

-- Each entry may come at its place.
abbrev pub AreEnteredOn : TableState → List Entry → Type 0
AreEnteredOn table entries =
    (before : List Entry) (e : Entry) (rest : List Entry) → entries ≡ before ++ e ∷ rest
    → IsEnteredOn (followed table before) e
