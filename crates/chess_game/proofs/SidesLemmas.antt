-- What happens to a game's sides is what happens to the sides of the game that the players see.
use Rattle.std.proofs.Common.{ℕ, ◌≡◌, ◌+◌, ◌-◌, ◌≤◌, Bool, true, false, List, [], ◌∷◌, ◌++◌, length, Option, Some, None, refl, sym, ap, ◌∙◌, arith, length-append}
use Rattle.std.specs.Prelude.{◌&&◌, not, if◌then◌else◌}
use Rattle.std.proofs.lemmas.Bool.Decides.{nat_tests}
use Rattle.chess_bits.specs.declared.men.Colour.{Colour}
use Rattle.chess_bits.specs.declared.men.Colour.TheVariants.{White, Black}
use Rattle.chess_bits.specs.Man.{other, is_colour}
use Rattle.chess_board.specs.declared.moves.Move.{Move}
use Rattle.chess_board.specs.Position.{Position}
use Rattle.chess_clock.specs.declared.events.ClockEvent.{ClockEvent}
use Rattle.chess_clock.specs.declared.events.ClockEvent.TheVariants.{Turn, WrongClaim}
use Rattle.chess_clock.specs.TimeControl.{TimeControl, moves_to_go}
use Rattle.chess_clock.specs.Events.{time_used}
use Rattle.chess_clock.specs.SideTimes.{second_within, given_further}
use Rattle.chess_clock.specs.ClockState.{ClockState, time_of, time_after, on_move_after}
use Rattle.chess_end.specs.declared.ending.Ending.{Ending}
use Rattle.chess_entry.specs.State.{SeatState, GameState, position_after, position_of, ply_of, seat_of, is_over}
use Rattle.chess_entry.specs.Follow.{completed, held_after_turn, turn_ended, ended, ended_if, claimed_wrongly}
use Rattle.chess_entry.proofs.HeldLemmas.{completed-next, side-after}
use Rattle.chess_game.specs.declared.sides.Sides.{Sides}
use Rattle.chess_game.specs.Sides.{turn_over, stopped, stopped_if, with_wrong_claim}
use Rattle.chess_game.specs.ClockFor.{clock_for, seat_for, sides_for}
use Rattle.chess_game.proofs.LineLemmas.{position_after-push}
use Rattle.chess_game.proofs.TimeLemmas.{given_further-turn, moves_to_go-next, completed-other}

-- ---- a turn

-- the seats after a turn of this side
abbrev pub seat_turned : GameState → ℕ → Colour → Colour → SeatState → SeatState
seat_turned game at mover side seat =
    if is_colour side mover
    then record seat {
      held = held_after_turn game.control seat.held (completed game.start.side side (ply_of game + 1)) (at - game.moment);
    }
    else record seat { offers = false }

held_turned : GameState → ℕ → Colour → Colour → ℕ
held_turned game at mover side = (seat_turned game at mover side (seat_of side game)).held

to_go_turned : GameState → Colour → ℕ
to_go_turned game side = moves_to_go game.control.period (completed game.start.side side (ply_of game + 1))

-- the sides after a turn of this side, with these times
built_turn : GameState → Colour → ℕ → ℕ → ℕ → ℕ → ℕ → Sides
built_turn game mover since white_held white_to_go black_held black_to_go = record {
  clock = record {
    control = game.control;
    side = other mover;
    since = since;
    white = record { held = white_held; to_go = white_to_go };
    black = record { held = black_held; to_go = black_to_go };
    is_stopped = is_over game;
  };
  white = record { name = game.white.name; offers = if is_colour White mover then game.white.offers else false };
  black = record { name = game.black.name; offers = if is_colour Black mover then game.black.offers else false };
  claimed = false;
  ending = game.ending;
}

built_turn-same : (game : GameState) (mover : Colour)
    {since since' wh wh' wg wg' bh bh' bg bg' : ℕ} → since ≡ since' → wh ≡ wh' → wg ≡ wg' → bh ≡ bh' → bg ≡ bg'
    → built_turn game mover since wh wg bh bg ≡ built_turn game mover since' wh' wg' bh' bg'
built_turn-same game mover s a b c d = cc

-- the sides of a game in which it is this side's turn
abbrev sides_in_turn : GameState → Colour → Sides
sides_in_turn game mover = record (sides_for game) { clock = record (clock_for game) { side = mover } }

second_within-none : (control : TimeControl) (to_go : ℕ) → second_within control to_go 0 ≡ 0
second_within-none control to_go = grind (arith, nat_tests)

time_used-turn : (side : Colour) (l : ℕ) → time_used side (Turn side l ∷ []) ≡ l
time_used-turn White l = omega arith
time_used-turn Black l = omega arith

-- the mover's time
mover_held : (side : Colour) (clock : ClockState) (l : ℕ)
    → (time_after side clock (Turn side l ∷ [])).held
    ≡ (time_of side clock).held + given_further clock.control (time_of side clock).to_go 1 0 - l
mover_held White clock l =
    ap (λ (u : ℕ). clock.white.held + given_further clock.control clock.white.to_go 1 0 - u) (time_used-turn White l)
mover_held Black clock l =
    ap (λ (u : ℕ). clock.black.held + given_further clock.control clock.black.to_go 1 0 - u) (time_used-turn Black l)

-- the other's
other_held : (side : Colour) (clock : ClockState) (l : ℕ)
    → (time_after (other side) clock (Turn side l ∷ [])).held ≡ (time_of (other side) clock).held
other_held White clock l = let second = second_within-none clock.control clock.black.to_go in omega (arith, second)
other_held Black clock l = let second = second_within-none clock.control clock.white.to_go in omega (arith, second)

other_to_go : (side : Colour) (clock : ClockState) (l : ℕ)
    → (time_after (other side) clock (Turn side l ∷ [])).to_go ≡ (time_of (other side) clock).to_go
other_to_go White clock l = omega arith
other_to_go Black clock l = omega arith

-- the clock of a game in which it is this side's turn, and that turn
abbrev clock_in_turn : GameState → Colour → ClockState
clock_in_turn game mover = record (clock_for game) { side = mover }

abbrev turn_at : GameState → ℕ → Colour → List ClockEvent
turn_at game at mover = Turn mover (at - game.moment) ∷ []

mover_held_turned : (game : GameState) (at : ℕ) (side : Colour) → on_move_after game.start.side (ply_of game) ≡ side
    → (time_after side (clock_in_turn game side) (turn_at game at side)).held ≡ held_turned game at side side
unfolding held_turned
mover_held_turned game at White on =
    mover_held White (clock_in_turn game White) (at - game.moment)
    ∙ given_further-turn game.control game.white.held (completed game.start.side White (ply_of game)) (at - game.moment)
    ∙ ap (λ (k : ℕ). held_after_turn game.control game.white.held k (at - game.moment))
    (sym (completed-next game.start.side White (ply_of game) (sym on)))
mover_held_turned game at Black on =
    mover_held Black (clock_in_turn game Black) (at - game.moment)
    ∙ given_further-turn game.control game.black.held (completed game.start.side Black (ply_of game)) (at - game.moment)
    ∙ ap (λ (k : ℕ). held_after_turn game.control game.black.held k (at - game.moment))
    (sym (completed-next game.start.side Black (ply_of game) (sym on)))

mover_to_go_turned : (game : GameState) (at : ℕ) (side : Colour) → on_move_after game.start.side (ply_of game) ≡ side
    → (time_after side (clock_in_turn game side) (turn_at game at side)).to_go ≡ to_go_turned game side
unfolding to_go_turned
mover_to_go_turned game at White on =
    moves_to_go-next game.control.period (completed game.start.side White (ply_of game))
    ∙ ap (moves_to_go game.control.period) (sym (completed-next game.start.side White (ply_of game) (sym on)))
mover_to_go_turned game at Black on =
    moves_to_go-next game.control.period (completed game.start.side Black (ply_of game))
    ∙ ap (moves_to_go game.control.period) (sym (completed-next game.start.side Black (ply_of game) (sym on)))

other_held_turned : (game : GameState) (at : ℕ) (side : Colour)
    → (time_after (other side) (clock_in_turn game side) (turn_at game at side)).held
    ≡ held_turned game at side (other side)
unfolding held_turned
other_held_turned game at White = other_held White (clock_in_turn game White) (at - game.moment)
other_held_turned game at Black = other_held Black (clock_in_turn game Black) (at - game.moment)

other_to_go_turned : (game : GameState) (at : ℕ) (side : Colour) → on_move_after game.start.side (ply_of game) ≡ side
    → (time_after (other side) (clock_in_turn game side) (turn_at game at side)).to_go ≡ to_go_turned game (other side)
unfolding to_go_turned
other_to_go_turned game at White on =
    other_to_go White (clock_in_turn game White) (at - game.moment)
    ∙ ap (moves_to_go game.control.period) (sym (completed-other game.start.side Black (ply_of game) on))
other_to_go_turned game at Black on =
    other_to_go Black (clock_in_turn game Black) (at - game.moment)
    ∙ ap (moves_to_go game.control.period) (sym (completed-other game.start.side White (ply_of game) on))

since_turn : (side : Colour) (moment at : ℕ) → moment ≤ at
    → moment + (time_used White (Turn side (at - moment) ∷ []) + time_used Black (Turn side (at - moment) ∷ [])) ≡ at
since_turn White moment at from = omega arith
since_turn Black moment at from = omega arith

turned : (game : GameState) (at : ℕ) (mover : Colour) → on_move_after game.start.side (ply_of game) ≡ mover
    → game.moment ≤ at
    → turn_over (sides_in_turn game mover) mover at
    ≡ built_turn game mover at (held_turned game at mover White) (to_go_turned game White)
    (held_turned game at mover Black) (to_go_turned game Black)
unfolding built_turn
turned game at White on from =
    built_turn-same game White (since_turn White game.moment at from)
    (mover_held_turned game at White on) (mover_to_go_turned game at White on)
    (other_held_turned game at White) (other_to_go_turned game at White on)
turned game at Black on from =
    built_turn-same game Black (since_turn Black game.moment at from)
    (other_held_turned game at Black) (other_to_go_turned game at Black on)
    (mover_held_turned game at Black on) (mover_to_go_turned game at Black on)

-- the sides that a turn leaves, with these numbers of moves and this side to move
shown_turn : GameState → ℕ → Colour → ℕ → Colour → Sides
shown_turn game at mover n next = record {
  clock = record {
    control = game.control;
    side = next;
    since = at;
    white = record {
      held = (seat_turned game at mover White game.white).held;
      to_go = moves_to_go game.control.period (completed game.start.side White n);
    };
    black = record {
      held = (seat_turned game at mover Black game.black).held;
      to_go = moves_to_go game.control.period (completed game.start.side Black n);
    };
    is_stopped = is_over game;
  };
  white = seat_for (seat_turned game at mover White game.white);
  black = seat_for (seat_turned game at mover Black game.black);
  claimed = false;
  ending = game.ending;
}

built_shown : (game : GameState) (at : ℕ) (mover : Colour)
    → built_turn game mover at (held_turned game at mover White) (to_go_turned game White)
    (held_turned game at mover Black) (to_go_turned game Black)
    ≡ shown_turn game at mover (ply_of game + 1) (other mover)
unfolding built_turn held_turned to_go_turned shown_turn
built_shown game at White = refl
built_shown game at Black = refl

shown_turn-ended : (game : GameState) (at : ℕ) (m : Move)
    → shown_turn game at (position_of game).side (length (game.moves ++ m ∷ []))
    (position_after game.start (game.moves ++ m ∷ [])).side ≡ sides_for (turn_ended game at m)
unfolding shown_turn
shown_turn-ended game at m = refl

pub turn_over-shown : (game : GameState) (at : ℕ) (m : Move) → game.moment ≤ at
    → turn_over (sides_for game) (position_of game).side at ≡ sides_for (turn_ended game at m)
turn_over-shown game at m from =
    let mover = (position_of game).side in
    let on = sym (side-after game.start game.moves) in
    let next : other mover ≡ (position_after game.start (game.moves ++ m ∷ [])).side =
    sym (ap (λ (p : Position). p.side) (position_after-push game.start game.moves m)) in
    let longer : ply_of game + 1 ≡ length (game.moves ++ m ∷ []) = sym (length-append game.moves (m ∷ [])) in
    turned game at mover on from
    ∙ built_shown game at mover
    ∙ ap (λ (n : ℕ). shown_turn game at mover n (other mover)) longer
    ∙ ap (λ (c : Colour). shown_turn game at mover (length (game.moves ++ m ∷ [])) c) next
    ∙ shown_turn-ended game at m

-- ---- the end

runs_only : (on over : Bool) → over ≡ false → (on && not over) ≡ on
runs_only true over goes_on = rw goes_on refl
runs_only false over goes_on = refl

-- the sides at the end, where it is known whose time ran
shown_end : GameState → ℕ → Ending → Bool → Bool → Sides
shown_end game at ending white black = record {
  clock = record {
    control = game.control;
    side = (position_of game).side;
    since = at;
    white = record {
      held = if white then game.white.held - (at - game.moment) else game.white.held;
      to_go = moves_to_go game.control.period (completed game.start.side White (ply_of game));
    };
    black = record {
      held = if black then game.black.held - (at - game.moment) else game.black.held;
      to_go = moves_to_go game.control.period (completed game.start.side Black (ply_of game));
    };
    is_stopped = true;
  };
  white = record { name = game.white.name; offers = false };
  black = record { name = game.black.name; offers = false };
  claimed = false;
  ending = Some ending;
}

stopped_as : (game : GameState) (at : ℕ) (ending : Ending)
    → stopped (sides_for game) at ending
    ≡ shown_end game at ending (is_colour White (position_of game).side && not (is_over game))
    (is_colour Black (position_of game).side && not (is_over game))
unfolding shown_end
stopped_as game at ending = refl

ended_as : (game : GameState) (at : ℕ) (ending : Ending)
    → shown_end game at ending (is_colour White (position_of game).side) (is_colour Black (position_of game).side)
    ≡ sides_for (ended game at ending)
unfolding shown_end
ended_as game at ending = refl

pub stopped-shown : (game : GameState) (at : ℕ) (ending : Ending) → is_over game ≡ false
    → stopped (sides_for game) at ending ≡ sides_for (ended game at ending)
stopped-shown game at ending goes_on =
    let white = runs_only (is_colour White (position_of game).side) (is_over game) goes_on in
    let black = runs_only (is_colour Black (position_of game).side) (is_over game) goes_on in
    stopped_as game at ending
    ∙ ap (λ (b : Bool). shown_end game at ending b (is_colour Black (position_of game).side && not (is_over game))) white
    ∙ ap (λ (b : Bool). shown_end game at ending (is_colour White (position_of game).side) b) black
    ∙ ended_as game at ending

pub stopped_if-shown : (game : GameState) (at : ℕ) (ending : Option Ending) → is_over game ≡ false
    → stopped_if (sides_for game) at ending ≡ sides_for (ended_if game at ending)
stopped_if-shown game at None goes_on = refl
stopped_if-shown game at (Some ending) goes_on = stopped-shown game at ending goes_on

-- ---- claims

since_claim : (side : Colour) (moment : ℕ)
    → moment + (time_used White (WrongClaim side ∷ []) + time_used Black (WrongClaim side ∷ [])) ≡ moment
since_claim White moment = omega arith
since_claim Black moment = omega arith

claimant_held : (side : Colour) (clock : ClockState)
    → (time_after side clock (WrongClaim side ∷ [])).held ≡ (time_of side clock).held
claimant_held White clock = let second = second_within-none clock.control clock.white.to_go in omega (arith, second)
claimant_held Black clock = let second = second_within-none clock.control clock.black.to_go in omega (arith, second)

opponent_held : (side : Colour) (clock : ClockState)
    → (time_after (other side) clock (WrongClaim side ∷ [])).held ≡ (time_of (other side) clock).held + 120000
opponent_held White clock = let second = second_within-none clock.control clock.black.to_go in omega (arith, second)
opponent_held Black clock = let second = second_within-none clock.control clock.white.to_go in omega (arith, second)

claim_to_go : (by side : Colour) (clock : ClockState)
    → (time_after side clock (WrongClaim by ∷ [])).to_go ≡ (time_of side clock).to_go
claim_to_go White White clock = omega arith
claim_to_go White Black clock = omega arith
claim_to_go Black White clock = omega arith
claim_to_go Black Black clock = omega arith

-- the sides after a wrong claim, with these times
built_claim : GameState → Colour → ℕ → ℕ → ℕ → ℕ → ℕ → Sides
built_claim game by since white_held white_to_go black_held black_to_go = record {
  clock = record (clock_for game) {
    since = since;
    white = record { held = white_held; to_go = white_to_go };
    black = record { held = black_held; to_go = black_to_go };
  };
  white = record { name = game.white.name; offers = if is_colour by White then true else game.white.offers };
  black = record { name = game.black.name; offers = if is_colour by Black then true else game.black.offers };
  claimed = true;
  ending = game.ending;
}

built_claim-same : (game : GameState) (by : Colour)
    {since since' wh wh' wg wg' bh bh' bg bg' : ℕ} → since ≡ since' → wh ≡ wh' → wg ≡ wg' → bh ≡ bh' → bg ≡ bg'
    → built_claim game by since wh wg bh bg ≡ built_claim game by since' wh' wg' bh' bg'
built_claim-same game by s a b c d = cc

pub with_wrong_claim-shown : (game : GameState) (by : Colour)
    → with_wrong_claim by (sides_for game) ≡ sides_for (claimed_wrongly game by)
unfolding built_claim
with_wrong_claim-shown game White =
    built_claim-same game White (since_claim White game.moment)
    (claimant_held White (clock_for game)) (claim_to_go White White (clock_for game))
    (opponent_held White (clock_for game)) (claim_to_go White Black (clock_for game))
with_wrong_claim-shown game Black =
    built_claim-same game Black (since_claim Black game.moment)
    (opponent_held Black (clock_for game)) (claim_to_go Black White (clock_for game))
    (claimant_held Black (clock_for game)) (claim_to_go Black Black (clock_for game))

pub completed-none : (first side : Colour) → completed first side 0 ≡ 0
completed-none White White = refl
completed-none White Black = refl
completed-none Black White = refl
completed-none Black Black = refl
