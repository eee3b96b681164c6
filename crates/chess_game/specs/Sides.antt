-- What happens to the sides of a game.
use Rattle.std.specs.Prelude.{ℕ, List, Bool, true, false, [], ◌∷◌, Option, Some, None}
use Rattle.chess_bits.specs.declared.men.Colour.{Colour}
use Rattle.chess_bits.specs.declared.men.Colour.TheVariants.{White, Black}
use Rattle.chess_bits.specs.Man.{other}
use Rattle.chess_clock.specs.declared.events.ClockEvent.TheVariants.{WrongClaim}
use Rattle.chess_clock.specs.ClockState.{clock_after, turn_ended, stopped_at}
use Rattle.chess_end.specs.declared.ending.Ending.{Ending}
use Rattle.chess_entry.specs.Follow.{seated}
use Rattle.chess_game.specs.declared.sides.Seat.{Seat}
use Rattle.chess_game.specs.declared.sides.Sides.{Sides}

abbrev pub seat_kept : Colour → Sides → Seat
seat_kept White sides = sides.white
seat_kept Black sides = sides.black

-- the sides with an offer of one set
abbrev pub offering : Colour → Bool → Sides → Sides
offering White offers sides = record sides { white = record sides.white { offers = offers } }
offering Black offers sides = record sides { black = record sides.black { offers = offers } }

-- The mover's turn is over: the opponent's offer is answered, and who moves next has not claimed.
abbrev pub turn_over : Sides → Colour → ℕ → Sides
turn_over sides mover at =
    record (offering (other mover) false (record sides {
      clock = clock_after sides.clock
          (turn_ended sides.clock at);
    })) {
      claimed = false;
    }

-- The game is over.
abbrev pub stopped : Sides → ℕ → Ending → Sides
stopped sides at ending = record {
  clock = stopped_at sides.clock at;
  white = record { name = sides.white.name; offers = false };
  black = record { name = sides.black.name; offers = false };
  claimed = false;
  ending = Some ending;
}

abbrev pub stopped_if : Sides → ℕ → Option Ending → Sides
stopped_if sides at None = sides
stopped_if sides at (Some ending) = stopped sides at ending

abbrev pub with_wrong_claim : Colour → Sides → Sides
with_wrong_claim by sides =
    record (offering by true (record sides { clock = clock_after sides.clock (WrongClaim by ∷ []) })) { claimed = true }

-- A player takes each empty seat.
abbrev pub sides_with_player : List ℕ → Sides → Sides
sides_with_player name sides = record sides {
  white = record sides.white { name = seated sides.white.name name };
  black = record sides.black { name = seated sides.black.name name };
}
