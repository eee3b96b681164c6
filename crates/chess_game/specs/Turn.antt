-- When a game goes on, and what is left to a side in it.
use Rattle.std.specs.Prelude.{ℕ, ◌≡◌, ◌≤◌, ◌-◌, ◌<◌, Bool, true, false, ◌&&◌, not}
use Rattle.std.specs.Option.{ForSome}
use Rattle.chess_bits.specs.declared.men.Colour.{Colour}
use Rattle.chess_board.specs.declared.moves.Move.{Move}
use Rattle.chess_board.specs.Legal.{IsLegal}
use Rattle.rec_codec.specs.declared.record.Claim.{Claim}
use Rattle.chess_entry.specs.State.{GameState, position_of, ply_of, seat_of, is_joined, is_over}
use Rattle.chess_entry.specs.GameTimes.{left_at}
use Rattle.chess_entry.specs.Verdict.{has_fallen, is_on_move}

-- Both seats are taken, the game is not over, and the moment is not before the running turn.
pub record IsRunningAt (game : GameState) (at : ℕ) : Type 0 where
  pub joined : is_joined game ≡ true
  pub goes_on : is_over game ≡ false
  pub from_start : game.moment ≤ at

-- Besides, the flag of the side to move has not fallen.
pub record IsInTime (game : GameState) (at : ℕ) : Type 0 where
  pub running : IsRunningAt game at
  pub in_time : has_fallen game at ≡ false

-- A move may be made: it is legal, and there is room for it.
pub record IsPlayable (game : GameState) (m : Move) : Type 0 where
  pub legal : IsLegal (position_of game) m
  pub room : ply_of game < 20000

-- A claim may be judged: the side to move claims, for the first time in its turn; a stated move may be made.
pub record IsJudgeable (game : GameState) (claim : Claim) : Type 0 where
  pub on_move : is_on_move claim.by game ≡ true
  pub unclaimed : game.claimed ≡ false
  pub stated : ForSome claim.mv (IsPlayable game)

-- The time of a side runs where the game runs and the side is on move.
abbrev pub time_runs : GameState → Colour → Bool
time_runs game side = is_joined game && (is_on_move side game && not (is_over game))

-- the milliseconds that a side has left at a moment
abbrev pub left_in : GameState → Colour → ℕ → ℕ
left_in game side at = left_at (time_runs game side) (seat_of side game).held (at - game.moment)
