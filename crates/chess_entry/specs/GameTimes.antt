-- The times of a game, as sums over its entries.
use Rattle.std.specs.Prelude.{ℕ, ◌-◌, Bool, true, ◌&&◌, not, if◌then◌else◌, List, [], ◌∷◌, filter, Option, Some, None}
use Rattle.std.specs.Prelude.{is_some}
use Rattle.std.specs.List.{flat_map, last_or}
use Rattle.chess_bits.specs.declared.men.Colour.{Colour}
use Rattle.chess_bits.specs.Man.{is_colour}
use Rattle.chess_board.specs.declared.moves.Move.{Move}
use Rattle.chess_board.specs.Position.{Position}
use Rattle.chess_clock.specs.declared.events.ClockEvent.{ClockEvent}
use Rattle.chess_clock.specs.declared.events.ClockEvent.TheVariants as clock
use Rattle.chess_clock.specs.TimeControl.{TimeControl}
use Rattle.chess_clock.specs.ClockState.{on_move_after}
use Rattle.chess_clock.specs.Held.{held}
use Rattle.rec_codec.specs.declared.record.Event.{Event}
use Rattle.rec_codec.specs.declared.record.Event.TheVariants as event
use Rattle.rec_codec.specs.declared.record.Entry.{Entry}
use Rattle.chess_entry.specs.State.{position_after}
use Rattle.chess_entry.specs.Story.{Placed, each_placed, first_given, tells_move}
use Rattle.chess_entry.specs.Outcome.{is_correct, ending_by, moves_made}

-- A turn begins with an entry: with the join, or with the move before it, once that is completed.
abbrev pub begins_event : Event → Bool
begins_event (event.Join name) = true
begins_event e = tells_move e

abbrev pub begins_turn : Position → Placed → Bool
begins_turn start at = begins_event at.entry.event && not (is_correct start at)

abbrev pub moment_of : Option Placed → ℕ
moment_of None = 0
moment_of (Some at) = at.entry.moment

-- the moment at which the running turn began, 0 where none has
abbrev pub turn_start : Position → List Entry → ℕ
turn_start start entries = moment_of (last_or None (filter (begins_turn start) (each_placed entries)))

-- the length of the turn that ends with an entry
abbrev pub turn_length : Position → Placed → ℕ
turn_length start at = at.entry.moment - turn_start start at.before

-- a claimant's turn of this length, where the claim states a move
abbrev pub claimant_turn : Colour → Option Move → ℕ → List ClockEvent
claimant_turn by None length = []
claimant_turn by (Some m) length = clock.Turn by length ∷ []

-- what an entry is to the clock: a completed move ends a turn, and a wrong claim gives time to the opponent
abbrev pub clock_event : Position → Bool → ℕ → Event → List ClockEvent
clock_event start correct length (event.Move made) = clock.Turn (on_move_after start.side made.ply) length ∷ []
clock_event start correct length (event.Claim claim) =
    if correct then [] else clock.WrongClaim claim.by ∷ claimant_turn claim.by claim.mv length
clock_event start correct length _ = []

abbrev pub clock_events_at : Position → Placed → List ClockEvent
clock_events_at start at = clock_event start (is_correct start at) (turn_length start at) at.entry.event

-- the turns and the wrong claims of a game
abbrev pub clock_events : Position → List Entry → List ClockEvent
clock_events start entries = flat_map (clock_events_at start) (each_placed entries)

-- the moment of an entry that ends the game
abbrev pub end_given : Position → Placed → Option ℕ
end_given start at = if is_some (ending_by start at) then Some at.entry.moment else None

-- the moment at which the game ended
abbrev pub end_in : Position → List Entry → Option ℕ
end_in start entries = first_given (end_given start) (each_placed entries)

-- The time of a side that holds so much, at the end of a game: the side to move has used the running turn too.
abbrev pub left_at : Bool → ℕ → ℕ → ℕ
left_at on_move held turn = if on_move then held - turn else held

-- what a side shows that holds so much: that, and of a game that has ended what was left
abbrev pub shown_held : Position → List Entry → Colour → ℕ → Option ℕ → ℕ
shown_held start entries side held None = held
shown_held start entries side held (Some end) =
    left_at (is_colour side (position_after start (moves_made start entries)).side) held
    (end - turn_start start entries)

-- The milliseconds that a side held at the start of the running turn, or had left at the end of a game that is over.
abbrev pub held_in : Position → TimeControl → List Entry → Colour → ℕ
held_in start control entries side =
    shown_held start entries side (held side control (clock_events start entries)) (end_in start entries)

-- the moment that a game shows: that of the running turn's start, or of the end
abbrev pub moment_shown : ℕ → Option ℕ → ℕ
moment_shown turn None = turn
moment_shown turn (Some end) = end

abbrev pub moment_in : Position → List Entry → ℕ
moment_in start entries = moment_shown (turn_start start entries) (end_in start entries)
