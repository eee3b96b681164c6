-- The game of a list of entries by its parts, and of a list with one entry more.
use Rattle.std.specs.Prelude.{ℕ, ◌≡◌, Bool, true, false, ◌&&◌, ◌||◌, not, if◌then◌else◌, List, [], ◌∷◌, ◌++◌, Option, Some, None, is_some}
use Rattle.std.proofs.Common.{ap, ◌∙◌, refl}
use Rattle.chess_bits.specs.declared.men.Colour.{Colour}
use Rattle.chess_bits.specs.declared.men.Colour.TheVariants.{White, Black}
use Rattle.chess_board.specs.declared.moves.Move.{Move}
use Rattle.chess_board.specs.Position.{Position}
use Rattle.chess_end.specs.declared.ending.Ending.{Ending}
use Rattle.chess_clock.specs.declared.events.ClockEvent.{ClockEvent}
use Rattle.chess_clock.specs.Held.{held}
use Rattle.rec_codec.specs.declared.record.Entry.{Entry}
use Rattle.rec_codec.specs.declared.record.Opening.{Opening}
use Rattle.chess_entry.specs.State.{position_after}
use Rattle.chess_entry.specs.Story.{placed, given_or, joiner_of, moves_told, is_claim, tells_move, offers_for, answers_for}
use Rattle.chess_entry.specs.Outcome.{moves_made, move_made, ending_in, ending_by}
use Rattle.chess_entry.specs.GameTimes.{begins_turn, turn_start, clock_events, clock_events_at, end_in, end_given, shown_held}
use Rattle.chess_entry.specs.Standing.{offers_in}
use Rattle.chess_entry.specs.Games.{control_of, game_in}
use Rattle.chess_entry.specs.Follow.{ended_if}
use Rattle.chess_entry.proofs.Fields.{joiner_in, joiner_in-more, stands, stands-more, claims, claims-more, moves_made-more, moves_made-told, ending_in-more, end_in-more, end_in-none, clock_events-more, turn_start-more}
use Rattle.chess_entry.proofs.Shown.{Parts, parts, player, shown, running, shown-ended, time_shown}
use Rattle.chess_entry.proofs.OneMeaning.{seat_state}

pub parts-same : {j k : Option (List ℕ)} {es fs : List ClockEvent} {w x b y : Bool} {t u : ℕ} {c d : Bool}
    {ms ns : List Move} → j ≡ k → es ≡ fs → w ≡ x → b ≡ y → t ≡ u → c ≡ d → ms ≡ ns →
    parts j es w b t c ms ≡ parts k fs x y u d ns
parts-same {j} {k} {es} {fs} {w} {x} {b} {y} {t} {u} {c} {d} {ms} {ns} e1 e2 e3 e4 e5 e6 e7 = cc

-- the parts of a game's story, where these moves were made
abbrev pub parts_with : Opening → List Entry → List Move → Parts
parts_with opening xs moves = parts (joiner_in xs) (clock_events opening.start xs)
    (stands opening.start.side xs White) (stands opening.start.side xs Black)
    (turn_start opening.start xs) (claims xs) moves

-- those of a game that runs
abbrev pub parts_of : Opening → List Entry → Parts
parts_of opening xs = parts_with opening xs (moves_told xs)

time_shown-is : (start : Position) (xs : List Entry) (side : Colour) (held : ℕ) (end : Option ℕ) →
    shown_held start xs side held end
    ≡ time_shown (position_after start (moves_made start xs)) side held (turn_start start xs) end
time_shown-is start xs side held None = refl
time_shown-is start xs side held (Some end) = refl

game_in-parts : (number : ℕ) (opening : Opening) (xs : List Entry) →
    game_in number opening xs
    ≡ shown number opening (parts_with opening xs (moves_made opening.start xs))
    (ending_in opening.start xs) (end_in opening.start xs)
game_in-parts number opening xs =
    ap (λ (time : ℕ). record (game_in number opening xs) {
      white = seat_state (player opening (joiner_in xs) White) time (offers_in opening.start xs White);
    }) (time_shown-is opening.start xs White (held White (control_of opening) (clock_events opening.start xs))
    (end_in opening.start xs))
    ∙ ap (λ (time : ℕ). record (shown number opening (parts_with opening xs (moves_made opening.start xs))
    (ending_in opening.start xs) (end_in opening.start xs)) {
      black = seat_state (player opening (joiner_in xs) Black) time (offers_in opening.start xs Black);
    }) (time_shown-is opening.start xs Black (held Black (control_of opening) (clock_events opening.start xs))
    (end_in opening.start xs))

game_in-by : (number : ℕ) (opening : Opening) (xs : List Entry) (moves : List Move) (ending : Option Ending)
    (end : Option ℕ) → moves_made opening.start xs ≡ moves → ending_in opening.start xs ≡ ending →
    end_in opening.start xs ≡ end →
    game_in number opening xs ≡ shown number opening (parts_with opening xs moves) ending end
game_in-by number opening xs moves ending end made ends at =
    game_in-parts number opening xs
    ∙ ap (λ (ms : List Move). shown number opening (parts_with opening xs ms)
    (ending_in opening.start xs) (end_in opening.start xs)) made
    ∙ ap (λ (o : Option Ending). shown number opening (parts_with opening xs moves) o (end_in opening.start xs)) ends
    ∙ ap (λ (o : Option ℕ). shown number opening (parts_with opening xs moves) ending o) at

pub game_in-running : (number : ℕ) (opening : Opening) (xs : List Entry) → ending_in opening.start xs ≡ None →
    game_in number opening xs ≡ running number opening (parts_of opening xs)
game_in-running number opening xs none =
    game_in-by number opening xs (moves_told xs) None None (moves_made-told opening.start xs none) none
    (end_in-none opening.start xs none)

-- the parts with one entry more
abbrev pub parts_more : Opening → List Entry → Entry → Parts
parts_more opening xs x = parts (given_or (joiner_in xs) (joiner_of x.event))
    (clock_events opening.start xs ++ clock_events_at opening.start (placed xs x))
    (if offers_for White x.event then true
    else (stands opening.start.side xs White && not (answers_for opening.start.side Black x.event)))
    (if offers_for Black x.event then true
    else (stands opening.start.side xs Black && not (answers_for opening.start.side White x.event)))
    (if begins_turn opening.start (placed xs x) then x.moment else turn_start opening.start xs)
    (if tells_move x.event then false else (claims xs || is_claim x.event))
    (moves_told xs ++ move_made opening.start (placed xs x))

-- A game that ran, with one entry more: its parts are so, and the entry may end it.
pub game_in-more : (number : ℕ) (opening : Opening) (xs : List Entry) (x : Entry) → ending_in opening.start xs ≡ None →
    game_in number opening (xs ++ x ∷ [])
    ≡ ended_if (running number opening (parts_more opening xs x)) x.moment (ending_by opening.start (placed xs x))
game_in-more number opening xs x none =
    let ending = ending_by opening.start (placed xs x) in
    let end : Option ℕ = if is_some ending then Some x.moment else None in
    let moves = moves_told xs ++ move_made opening.start (placed xs x) in
    game_in-by number opening (xs ++ x ∷ []) moves ending end
    (moves_made-more opening.start xs x
    ∙ ap (λ (ms : List Move). ms ++ move_made opening.start (placed xs x)) (moves_made-told opening.start xs none))
    (ending_in-more opening.start xs x ∙ ap (λ (o : Option Ending). given_or o ending) none)
    (end_in-more opening.start xs x
    ∙ ap (λ (o : Option ℕ). given_or o (end_given opening.start (placed xs x))) (end_in-none opening.start xs none))
    ∙ ap (λ (p : Parts). shown number opening p ending end)
    (parts-same {ms = moves} {ns = moves} (joiner_in-more xs x) (clock_events-more opening.start xs x)
    (stands-more opening.start.side xs x White) (stands-more opening.start.side xs x Black)
    (turn_start-more opening.start xs x) (claims-more xs x) refl)
    ∙ shown-ended number opening (parts_more opening xs x) x.moment ending
