-- A game by its parts, and what the entries of a game that runs do to them.
use Rattle.std.specs.Prelude.{ℕ, ◌≡◌, ◌+◌, ◌-◌, Bool, true, false, ◌&&◌, not, if◌then◌else◌, List, [], ◌∷◌, ◌++◌, length, Option, Some, None, is_some, is_none}
use Rattle.std.proofs.Common.{ap, ◌∙◌, refl}
use Rattle.std.proofs.lemmas.Bool.{and_right}
use Rattle.std.proofs.Math.Bool.{and-true}
use Rattle.chess_bits.specs.declared.men.Colour.{Colour}
use Rattle.chess_bits.specs.declared.men.Colour.TheVariants.{White, Black}
use Rattle.chess_bits.specs.Man.{is_colour, other}
use Rattle.chess_board.specs.declared.moves.Move.{Move}
use Rattle.chess_board.specs.Position.{Position}
use Rattle.chess_end.specs.declared.ending.Ending.{Ending}
use Rattle.chess_clock.specs.declared.events.ClockEvent.{ClockEvent}
use Rattle.chess_clock.specs.declared.events.ClockEvent.TheVariants as clock
use Rattle.chess_clock.specs.TimeControl.{TimeControl}
use Rattle.chess_clock.specs.Held.{held}
use Rattle.chess_clock.specs.ClockState.{on_move_after}
use Rattle.rec_codec.specs.declared.record.Opening.{Opening}
use Rattle.chess_entry.specs.State.{SeatState, GameState, position_after}
use Rattle.chess_entry.specs.GameTimes.{left_at, moment_shown}
use Rattle.chess_entry.specs.Games.{control_of}
use Rattle.chess_entry.specs.Follow.{seated, joined, with_offer, ended_if, turn_ended, claimed_wrongly, seat_after_claim, completed, held_after_turn}
use Rattle.chess_entry.proofs.HeldLemmas.{AreTimed, side-after, held-own_turn, held-others_turn, held-own_claim, held-others_claim}
use Rattle.chess_entry.proofs.OneMeaning.{seat_state}

-- who plays a side: who opened the game, or who joined it
abbrev pub player : Opening → Option (List ℕ) → Colour → Option (List ℕ)
player opening joiner side = if is_colour side opening.colour then Some opening.name else joiner

-- what a side shows that holds so much
abbrev pub time_shown : Position → Colour → ℕ → ℕ → Option ℕ → ℕ
time_shown p side held turn None = held
time_shown p side held turn (Some end) = left_at (is_colour side p.side) held (end - turn)

-- what is told of a game's story, but for how it ends
pub record Parts : Type 0 where
  pub joiner : Option (List ℕ)
  pub events : List ClockEvent
  pub white : Bool
  pub black : Bool
  pub turn : ℕ
  pub claimed : Bool
  pub moves : List Move

abbrev pub parts : Option (List ℕ) → List ClockEvent → Bool → Bool → ℕ → Bool → List Move → Parts
parts joiner events white black turn claimed moves = record {
  joiner = joiner;
  events = events;
  white = white;
  black = black;
  turn = turn;
  claimed = claimed;
  moves = moves;
}

-- the game of such a story
abbrev pub shown : ℕ → Opening → Parts → Option Ending → Option ℕ → GameState
shown number opening p ending end = record {
  number = number;
  start = opening.start;
  control = control_of opening;
  white = seat_state (player opening p.joiner White)
      (time_shown (position_after opening.start p.moves) White (held White (control_of opening) p.events) p.turn end)
      (is_none ending && p.white);
  black = seat_state (player opening p.joiner Black)
      (time_shown (position_after opening.start p.moves) Black (held Black (control_of opening) p.events) p.turn end)
      (is_none ending && p.black);
  moves = p.moves;
  moment = moment_shown p.turn end;
  claimed = is_none ending && p.claimed;
  ending = ending;
}

-- the game that runs
abbrev pub running : ℕ → Opening → Parts → GameState
running number opening p = shown number opening p None None

pub shown-ended : (number : ℕ) (opening : Opening) (p : Parts) (at : ℕ) (ending : Option Ending) →
    shown number opening p ending (if is_some ending then Some at else None)
    ≡ ended_if (running number opening p) at ending
shown-ended number opening p at None = refl
shown-ended number opening p at (Some ending) = refl

-- ---- the join

seated-name : (here : Bool) (opener name : List ℕ) →
    (if here then Some opener else Some name) ≡ seated (if here then Some opener else None) name
seated-name true opener name = refl
seated-name false opener name = refl

pub running-joined : (number : ℕ) (opening : Opening) (events : List ClockEvent) (white black : Bool) (turn : ℕ)
    (claimed : Bool) (moves : List Move) (at : ℕ) (name : List ℕ) →
    running number opening (parts (Some name) events white black at claimed moves)
    ≡ joined (running number opening (parts None events white black turn claimed moves)) at name
running-joined number opening events white black turn claimed moves at name =
    ap (λ (player : Option (List ℕ)). record (running number opening (parts (Some name) events white black at claimed moves)) {
      white = seat_state player (held White (control_of opening) events) white;
    }) (seated-name (is_colour White opening.colour) opening.name name)
    ∙ ap (λ (player : Option (List ℕ)). record (joined (running number opening
    (parts None events white black turn claimed moves)) at name) {
      black = seat_state player (held Black (control_of opening) events) black;
    }) (seated-name (is_colour Black opening.colour) opening.name name)

-- ---- offers

pub running-offered : (number : ℕ) (opening : Opening) (p : Parts) (by : Colour) →
    running number opening (record p {
      white = if is_colour White by then true else p.white;
      black = if is_colour Black by then true else p.black;
    })
    ≡ with_offer (running number opening p) by true
running-offered number opening p White = refl
running-offered number opening p Black = refl

pub running-declined : (number : ℕ) (opening : Opening) (p : Parts) (by : Colour) →
    running number opening (record p {
      white = p.white && not (is_colour Black by);
      black = p.black && not (is_colour White by);
    })
    ≡ with_offer (running number opening p) (other by) false
running-declined number opening p White =
    ap (λ (b : Bool). running number opening (record p { white = b; black = p.black && false })) (and-true p.white)
    ∙ ap (λ (b : Bool). running number opening (record p { black = b })) (and_right p.black false refl)
running-declined number opening p Black =
    ap (λ (b : Bool). running number opening (record p { white = b; black = p.black && true }))
    (and_right p.white false refl)
    ∙ ap (λ (b : Bool). running number opening (record p { white = false; black = b })) (and-true p.black)

-- ---- a completed move

-- the seat of a side after a turn of the mover
abbrev after_turn : Colour → Colour → ℕ → SeatState → SeatState
after_turn mover side time old =
    if is_colour side mover then record old { held = time } else record old { offers = false }

seat-same : (name : Option (List ℕ)) (a b : ℕ) (x y : Bool) → a ≡ b → x ≡ y → seat_state name a x ≡ seat_state name b y
seat-same name a b x y e f = cc

seat-turn : (first mover side : Colour) (control : TimeControl) (events : List ClockEvent) (plies length : ℕ)
    (name : Option (List ℕ)) (offers : Bool) → AreTimed first control events plies → mover ≡ on_move_after first plies →
    seat_state name (held side control (events ++ clock.Turn mover length ∷ []))
    (offers && not (is_colour (other side) mover))
    ≡ after_turn mover side (held_after_turn control (held side control events) (completed first side (plies + 1)) length)
    (seat_state name (held side control events) offers)
seat-turn first White White control events plies length name offers timed on_move =
    seat-same name _ _ _ _ (held-own_turn first White control events plies length (timed White) on_move) (and-true offers)
seat-turn first White Black control events plies length name offers timed on_move =
    seat-same name _ _ _ _ (held-others_turn White control events length) (and_right offers false refl)
seat-turn first Black White control events plies length name offers timed on_move =
    seat-same name _ _ _ _ (held-others_turn Black control events length) (and_right offers false refl)
seat-turn first Black Black control events plies length name offers timed on_move =
    seat-same name _ _ _ _ (held-own_turn first Black control events plies length (timed Black) on_move) (and-true offers)

pub running-moved : (number : ℕ) (opening : Opening) (p : Parts) (at : ℕ) (m : Move) (mover : Colour) →
    AreTimed opening.start.side (control_of opening) p.events (length p.moves) →
    mover ≡ (position_after opening.start p.moves).side →
    running number opening (parts p.joiner (p.events ++ clock.Turn mover (at - p.turn) ∷ [])
    (p.white && not (is_colour Black mover)) (p.black && not (is_colour White mover)) at false (p.moves ++ m ∷ []))
    ≡ turn_ended (running number opening p) at m
running-moved number opening p at m mover timed is_mover =
    let on_move : (position_after opening.start p.moves).side ≡ on_move_after opening.start.side (length p.moves) =
    side-after opening.start p.moves in
    ap (λ (c : Colour). running number opening (parts p.joiner (p.events ++ clock.Turn c (at - p.turn) ∷ [])
    (p.white && not (is_colour Black c)) (p.black && not (is_colour White c)) at false (p.moves ++ m ∷ []))) is_mover
    ∙ ap (λ (s : SeatState). record (running number opening (parts p.joiner
    (p.events ++ clock.Turn (position_after opening.start p.moves).side (at - p.turn) ∷ [])
    (p.white && not (is_colour Black (position_after opening.start p.moves).side))
    (p.black && not (is_colour White (position_after opening.start p.moves).side)) at false (p.moves ++ m ∷ []))) {
      white = s;
    })
    (seat-turn opening.start.side (position_after opening.start p.moves).side White (control_of opening) p.events
    (length p.moves) (at - p.turn) (player opening p.joiner White) p.white timed on_move)
    ∙ ap (λ (s : SeatState). record (turn_ended (running number opening p) at m) { black = s })
    (seat-turn opening.start.side (position_after opening.start p.moves).side Black (control_of opening) p.events
    (length p.moves) (at - p.turn) (player opening p.joiner Black) p.black timed on_move)

-- ---- a wrong claim

seat-claim : (first by side : Colour) (control : TimeControl) (events : List ClockEvent) (plies : ℕ)
    (name : Option (List ℕ)) (offers : Bool) → AreTimed first control events plies →
    seat_state name (held side control (events ++ clock.WrongClaim by ∷ []))
    (if is_colour side by then true else offers)
    ≡ seat_after_claim by side (seat_state name (held side control events) offers)
seat-claim first White White control events plies name offers timed =
    seat-same name _ _ _ _ (held-own_claim White control events) refl
seat-claim first White Black control events plies name offers timed =
    seat-same name _ _ _ _ (held-others_claim White Black control events refl (timed Black).within) refl
seat-claim first Black White control events plies name offers timed =
    seat-same name _ _ _ _ (held-others_claim Black White control events refl (timed White).within) refl
seat-claim first Black Black control events plies name offers timed =
    seat-same name _ _ _ _ (held-own_claim Black control events) refl

-- the story with a wrong claim
abbrev pub after_claim : Parts → Colour → Parts
after_claim p by = record p {
  events = p.events ++ clock.WrongClaim by ∷ [];
  white = if is_colour White by then true else p.white;
  black = if is_colour Black by then true else p.black;
  claimed = true;
}

pub running-claimed : (number : ℕ) (opening : Opening) (p : Parts) (by : Colour) →
    AreTimed opening.start.side (control_of opening) p.events (length p.moves) →
    running number opening (after_claim p by) ≡ claimed_wrongly (running number opening p) by
running-claimed number opening p by timed =
    ap (λ (s : SeatState). record (running number opening (after_claim p by)) { white = s })
    (seat-claim opening.start.side by White (control_of opening) p.events (length p.moves)
    (player opening p.joiner White) p.white timed)
    ∙ ap (λ (s : SeatState). record (claimed_wrongly (running number opening p) by) { black = s })
    (seat-claim opening.start.side by Black (control_of opening) p.events (length p.moves)
    (player opening p.joiner Black) p.black timed)
