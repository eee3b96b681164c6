-- One side's time, and what one turn and one wrong claim do to it.
use Rattle.std.specs.Prelude.{ℕ, ◌+◌, ◌-◌, ◌*◌, ◌&&◌, nat_le, if◌then◌else◌}
pub use Rattle.chess_clock.specs.declared.side_times.SideTime.{SideTime}
use Rattle.chess_clock.specs.TimeControl.{TimeControl, second_time}

-- The milliseconds that the second period adds to a side with so many moves to go to it, which completes so many.
abbrev pub second_within : TimeControl → ℕ → ℕ → ℕ
second_within control to_go moves =
    if nat_le 1 to_go && nat_le to_go moves then second_time control.period else 0

-- The milliseconds that a side with so many moves to go is given further which completes so many moves and whose
-- opponent makes so many wrong claims.
abbrev pub given_further : TimeControl → ℕ → ℕ → ℕ → ℕ
given_further control to_go moves claims =
    1000 * control.increment * moves + 120000 * claims + second_within control to_go moves

-- a side's time after a turn of so many milliseconds
abbrev pub after_turn : TimeControl → SideTime → ℕ → SideTime
after_turn control time length = record {
  held = time.held + 1000 * control.increment + second_within control time.to_go 1 - length;
  to_go = time.to_go - 1;
}

-- a side's time after a wrong claim of its opponent
abbrev pub with_penalty : SideTime → SideTime
with_penalty time = record { held = time.held + 120000; to_go = time.to_go }
