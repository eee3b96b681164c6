-- What holds of a game when an entry of it is made.
use Rattle.std.specs.Prelude.{ℕ, ◌≡◌, ◌-◌, ◌<◌, true, false, None}
use Rattle.rec_codec.specs.declared.record.Event.{Event}
use Rattle.rec_codec.specs.declared.record.Event.TheVariants as event
use Rattle.chess_entry.specs.State.{GameState, position_of, ply_of, seat_of, is_joined}

-- both seats are taken and the game is not over
pub record IsPlaying (game : GameState) : Type 0 where
  pub joined : is_joined game ≡ true
  pub goes_on : game.ending ≡ None

-- and the flag of the side to move is up
pub record IsInTime (game : GameState) (at : ℕ) : Type 0 where
  pub playing : IsPlaying game
  pub up : at - game.moment < (seat_of (position_of game).side game).held

abbrev pub IsAllowed : GameState → ℕ → Event → Type 0
IsAllowed game at (event.Open opening) = ⊥
IsAllowed game at (event.Join name) = is_joined game ≡ false
IsAllowed game at (event.Move made) = IsInTime game at × (made.ply ≡ ply_of game)
IsAllowed game at (event.Offer by) = IsPlaying game
IsAllowed game at (event.Accept by) = IsPlaying game
IsAllowed game at (event.Decline by) = IsPlaying game
IsAllowed game at (event.Resign by) = IsPlaying game
IsAllowed game at (event.Claim claim) = IsInTime game at × (claim.by ≡ (position_of game).side)
IsAllowed game at event.Fallen = IsPlaying game
IsAllowed game at event.Drop = Unit {0}
