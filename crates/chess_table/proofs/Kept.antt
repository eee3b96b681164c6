-- What holds of every table is kept.
use Rattle.std.proofs.Common.{ℕ, ◌≤◌, arith}
use Rattle.rec_codec.specs.declared.limits.Limits.{Limits}
use Rattle.rec_codec.specs.declared.limits.Version.TheVariants.{Two}
use Rattle.rec_codec.specs.Limits.{IsInRange}
use Rattle.chess_entry.specs.State.{GameState, TableState, ply_of}
use Rattle.chess_entry.specs.Bounds.{IsGame}
use Rattle.chess_entry.specs.Table.{IsTable, IsOnTable}
use Rattle.chess_table.specs.Widened.{with_limits}
use Rattle.chess_table.proofs.Rising.{EachOf-weaker}

-- a game of at most so many moves is one of at most any number that it does not pass
pub IsGame-within : (m n : ℕ) (game : GameState) → IsGame m game → ply_of game ≤ n → IsGame n game
IsGame-within m n game is short = record {
  numbered = is.numbered;
  number = is.number;
  opened = is.opened;
  short = short;
  waiting = is.waiting;
  played = is.played;
}

pub IsTable-widen : (table : TableState) (limits : Limits) → IsTable table → IsInRange Two limits
    → table.limits.games ≤ limits.games → table.limits.plies ≤ limits.plies → IsTable (with_limits limits table)
IsTable-widen table limits is in_range games plies = record {
  limits = in_range;
  moment = is.moment;
  last = is.last;
  entries = is.entries;
  few = omega (arith, is.few);
  rising = is.rising;
  games = EachOf-weaker (IsOnTable table) (IsOnTable (with_limits limits table)) table.games
      (λ g on. record {
        game = IsGame-within table.limits.plies limits.plies g on.game (omega (arith, on.game.short));
        number = on.number;
        moment = on.moment;
      }) is.games;
}
