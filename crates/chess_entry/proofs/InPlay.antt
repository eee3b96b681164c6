-- What a game that stands on the table shows of its entries.
use Rattle.std.specs.Prelude.{ℕ, ◌≡◌, ◌-◌, ◌<◌, false, ◌&&◌, if◌then◌else◌, List, length, Option, Some, None, is_some}
use Rattle.std.proofs.Common.{ap, sym, subst, ◌∙◌, refl}
use Rattle.std.proofs.Math.Bool.{and-true}
use Rattle.chess_bits.specs.declared.men.Colour.{Colour}
use Rattle.chess_bits.specs.declared.men.Colour.TheVariants.{White, Black}
use Rattle.chess_bits.specs.Man.{is_colour}
use Rattle.chess_clock.specs.Held.{held}
use Rattle.chess_clock.specs.ClockState.{on_move_after}
use Rattle.rec_codec.specs.declared.record.Entry.{Entry}
use Rattle.rec_codec.specs.declared.record.Opening.{Opening}
use Rattle.chess_entry.specs.State.{GameState, position_after, position_of, ply_of, seat_of, is_joined}
use Rattle.chess_entry.specs.Story.{moves_told}
use Rattle.chess_entry.specs.Outcome.{ending_in}
use Rattle.chess_entry.specs.GameTimes.{clock_events, turn_start}
use Rattle.chess_entry.specs.Games.{control_of, game_in}
use Rattle.chess_entry.proofs.Fields.{joiner_in}
use Rattle.chess_entry.proofs.HeldLemmas.{AreTimed, side-after}
use Rattle.chess_entry.proofs.Shown.{Parts, running}
use Rattle.chess_entry.proofs.GameMore.{parts_of, game_in-running}
use Rattle.chess_entry.proofs.Allowed.{IsInTime}

-- What is true of the entries of a game that was opened so: before the join it has not ended, and while it runs no side
-- has used more time than it was given.
pub record IsSound (opening : Opening) (xs : List Entry) : Type 0 where
  pub waits : joiner_in xs ≡ None → ending_in opening.start xs ≡ None
  pub timed : ending_in opening.start xs ≡ None →
      AreTimed opening.start.side (control_of opening) (clock_events opening.start xs) (length (moves_told xs))

-- ---- who has joined

joined_by : (here : Colour) (opener : List ℕ) (joiner : Option (List ℕ)) →
    (is_some (if is_colour White here then Some opener else joiner)
    && is_some (if is_colour Black here then Some opener else joiner))
    ≡ is_some joiner
joined_by White opener joiner = refl
joined_by Black opener joiner = and-true (is_some joiner)

pub is_joined-in : (number : ℕ) (opening : Opening) (xs : List Entry) →
    is_joined (game_in number opening xs) ≡ is_some (joiner_in xs)
is_joined-in number opening xs = joined_by opening.colour opening.name (joiner_in xs)

pub none-not_some : {A : Type 0} (o : Option A) → is_some o ≡ false → o ≡ None
none-not_some None h = refl
none-not_some (Some a) h = absurd (cc)

pub on_move-in : (opening : Opening) (xs : List Entry) (number : ℕ) (side : Colour) → ending_in opening.start xs ≡ None →
    side ≡ (position_of (game_in number opening xs)).side →
    side ≡ (position_after opening.start (moves_told xs)).side
on_move-in opening xs number side none is =
    is ∙ ap (λ (game : GameState). (position_of game).side) (game_in-running number opening xs none)

pub mover-in : (opening : Opening) (xs : List Entry) (number ply : ℕ) → ending_in opening.start xs ≡ None →
    ply ≡ ply_of (game_in number opening xs) →
    on_move_after opening.start.side ply ≡ (position_after opening.start (moves_told xs)).side
mover-in opening xs number ply none is =
    ap (on_move_after opening.start.side)
    (is ∙ ap (λ (game : GameState). ply_of game) (game_in-running number opening xs none))
    ∙ sym (side-after opening.start (moves_told xs))

seat-held : (side : Colour) (number : ℕ) (opening : Opening) (p : Parts) →
    (seat_of side (running number opening p)).held ≡ held side (control_of opening) p.events
seat-held White number opening p = refl
seat-held Black number opening p = refl

-- the running turn is shorter than what its side held
pub up-in : (opening : Opening) (xs : List Entry) (number at : ℕ) → ending_in opening.start xs ≡ None →
    IsInTime (game_in number opening xs) at →
    at - turn_start opening.start xs
    < held (position_after opening.start (moves_told xs)).side (control_of opening) (clock_events opening.start xs)
up-in opening xs number at none in_time =
    let p = parts_of opening xs in
    subst (λ (time : ℕ). at - turn_start opening.start xs < time)
    (seat-held (position_after opening.start (moves_told xs)).side number opening p)
    (subst (λ (game : GameState). at - game.moment < (seat_of (position_of game).side game).held)
    (game_in-running number opening xs none) in_time.up)
