-- What a game is to be like for an entry of it.
use Rattle.std.specs.Prelude.{ℕ, ◌≡◌, List, Some, None, false}
use Rattle.player_name.specs.Name.{IsName}
use Rattle.rec_codec.specs.declared.record.Event.{Event}
use Rattle.rec_codec.specs.declared.record.Event.TheVariants as event
use Rattle.rec_codec.specs.declared.record.Entry.{Entry}
use Rattle.chess_clock.specs.TimeControl.{IsTimeControl}
use Rattle.chess_entry.specs.State.{GameState, is_joined, find_game}
use Rattle.chess_entry.specs.Games.{control_of}
use Rattle.chess_entry.specs.Verdict.{side_of}
use Rattle.chess_entry.specs.Bounds.{IsStart}
use Rattle.chess_game.specs.Turn.{IsRunningAt, IsInTime, IsPlayable, IsJudgeable}

-- A seat is free for another player; a move may be made; a claim may be judged; else the game runs.
abbrev pub IsReady : GameState → ℕ → Event → Type 0
IsReady game at (event.Open opening) = ⊥
IsReady game at (event.Join name) = (is_joined game ≡ false) × (side_of name game ≡ None) × IsName name
IsReady game at (event.Move made) = IsInTime game at × IsPlayable game made.mv
IsReady game at (event.Offer by) = IsRunningAt game at
IsReady game at (event.Accept by) = IsRunningAt game at
IsReady game at (event.Decline by) = IsRunningAt game at
IsReady game at (event.Resign by) = IsRunningAt game at
IsReady game at (event.Claim claim) = IsInTime game at × IsJudgeable game claim
IsReady game at event.Fallen = IsRunningAt game at
IsReady game at event.Drop = Unit {0}

-- A game among these is ready for the entry.
pub record IsOfGame (games : List GameState) (e : Entry) : Type 0 where
  pub game : GameState
  pub found : find_game e.game games ≡ Some game
  pub ready : IsReady game e.moment e.event

-- A game of a new number may be opened, or the entry's game is ready for it.
abbrev pub MayFollow : List GameState → Entry → Event → Type 0
MayFollow games e (event.Open opening) =
    IsTimeControl (control_of opening) × IsStart opening.start × (find_game e.game games ≡ None)
MayFollow games e _ = IsOfGame games e
