-- What an entry that comes on a table asks of it.
use Rattle.std.specs.Prelude.{ℕ, ◌≡◌, ◌⊎◌, ◌≤◌, ◌<◌, ◌+◌, ◌^◌, Some, length}
use Rattle.std.specs.Option.{ForSome}
use Rattle.chess_clock.specs.TimeControl.{IsTimeControl}
use Rattle.player_name.specs.Name.{IsName}
use Rattle.rec_codec.specs.declared.record.Event.{Event}
use Rattle.rec_codec.specs.declared.record.Event.TheVariants as event
use Rattle.rec_codec.specs.declared.record.Entry.{Entry}
use Rattle.rec_codec.specs.declared.record.Opening.{Opening}
use Rattle.chess_entry.specs.declared.verdicts.Verdict.TheVariants.{Enter}
use Rattle.chess_entry.specs.State.{GameState, TableState, ply_of, find_game}
use Rattle.chess_entry.specs.Games.{control_of}
use Rattle.chess_entry.specs.Bounds.{IsStart}
use Rattle.chess_table.specs.Ready.{IsReady}
use Rattle.chess_table.specs.Witness.{opening_verdict, witness_verdict}

-- There is room for the move that an entry states.
abbrev pub IsShort : ℕ → GameState → Event → Type 0
IsShort plies game (event.Move made) = ply_of game < plies
IsShort plies game (event.Claim claim) = ForSome claim.mv (λ _. ply_of game < plies)
IsShort plies game _ = Unit {0}

-- The game is ready for the entry, and has room for its move.
pub record IsReadyFor (plies : ℕ) (game : GameState) (at : ℕ) (ev : Event) : Type 0 where
  pub ready : IsReady game at ev
  pub short : IsShort plies game ev

-- A game is opened with the next number.
pub record OpensGame (table : TableState) (e : Entry) : Type 0 where
  pub opening : Opening
  pub opens : e.event ≡ event.Open opening
  pub next : e.game ≡ table.last + 1
  pub number : e.game < 2 ^ 32
  pub control : IsTimeControl (control_of opening)
  pub start : IsStart opening.start
  pub named : IsName opening.name
  pub room : length table.games < table.limits.games
  pub verdict : opening_verdict table e.moment opening ≡ Enter e

-- The entry is of a game on the table, which is ready for it, and is the verdict on the act that it would have become of.
pub record ActsInGame (table : TableState) (e : Entry) : Type 0 where
  pub game : GameState
  pub found : find_game e.game table.games ≡ Some game
  pub ready : IsReadyFor table.limits.plies game e.moment e.event
  pub verdict : witness_verdict table e.moment game e.event ≡ Enter e

-- The moment is not before those of the entries so far, and the entry opens a game or is of one that is ready for it.
pub record Comes (table : TableState) (e : Entry) : Type 0 where
  pub from : table.moment ≤ e.moment
  pub to : e.moment ≤ 4611686018427387903
  pub kind : OpensGame table e ⊎ ActsInGame table e
